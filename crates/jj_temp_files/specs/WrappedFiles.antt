-- The file system of a process, or of a caller, that is wrapped.
-- Cited by contracts of public items: wrapped_files.
use Rattle.jj_temp_files.specs.declared.system_files.SystemFiles.{SystemFiles}

-- the wrapped file system
abbrev pub wrapped_files : {F : Type 0} → SystemFiles F → F
wrapped_files files = files.files
