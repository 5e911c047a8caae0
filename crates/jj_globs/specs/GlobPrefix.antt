-- The literal prefix of a glob: bytes with which every match begins.
-- Cited by contracts of public items: glob_prefix.
use Rattle.std.specs.Prelude.{ℕ, List, [], ◌∷◌, Result, Ok, Err, if◌then◌else◌}
use Rattle.jj_globs.specs.declared.glob.error.GlobError.{GlobError}
use Rattle.jj_globs.specs.declared.glob.token.Options.{Options}
use Rattle.jj_globs.specs.declared.glob.token.Part.{Part}
use Rattle.jj_globs.specs.declared.glob.token.Part.TheVariants.{Byte, AnyByte, Star, LeadingDirs, InnerDirs, Below, Everything, OneOf}
use Rattle.jj_globs.specs.declared.glob.token.Token.{Token}
use Rattle.jj_globs.specs.declared.glob.token.Token.TheVariants.{Part as part, Open, Or, Close}
use Rattle.jj_globs.specs.GlobSyntax.{tokens_of}
use Rattle.jj_globs.specs.GlobMeaning.{GlobSpec}

-- prepends a literal byte; any other part ends the prefix
abbrev pub prepend_byte : Part → List ℕ → List ℕ
prepend_byte (Byte b) bytes = b ∷ bytes
prepend_byte AnyByte bytes = []
prepend_byte Star bytes = []
prepend_byte LeadingDirs bytes = []
prepend_byte InnerDirs bytes = []
prepend_byte Below bytes = []
prepend_byte Everything bytes = []
prepend_byte (OneOf class) bytes = []

-- the literal bytes before the first other token
abbrev pub leading_bytes : List Token → List ℕ
leading_bytes [] = []
leading_bytes (part p ∷ ts) = prepend_byte p (leading_bytes ts)
leading_bytes (Open ∷ ts) = []
leading_bytes (Or ∷ ts) = []
leading_bytes (Close ∷ ts) = []

-- empty with `icase`, since a letter then matches two bytes
abbrev pub prefix_of_tokens : Options → List Token → List ℕ
prefix_of_tokens o ts = if o.icase then [] else leading_bytes ts

-- the literal prefix of parsed tokens; empty after an error
abbrev pub parsed_prefix : Options → Result (List Token) GlobError → List ℕ
parsed_prefix o (Ok ts) = prefix_of_tokens o ts
parsed_prefix o (Err error) = []

-- the literal prefix of a glob; empty if its string is malformed
unfoldable pub glob_prefix : GlobSpec → List ℕ
glob_prefix g = parsed_prefix g.options (tokens_of g.text)
