-- The contents of path components and of paths, which are those of their strings.
-- Cited by contracts of public items: name_contents, path_contents.
use Rattle.std.proofs.Common.{refl}
use Rattle.jj_content.specs.Content.{string_content}
use Rattle.jj_content.specs.PrefixFreeProofs.{narrow_lawful, string_lawful}
use Rattle.jj_decode.specs.Contents.{AreContents, IsContentOf}
use Rattle.jj_decode.specs.ContentsProofs.{contents_of}
use Rattle.jj_decode.specs.NonemptyProofs.{string_nonempty}
use Rattle.jj_paths.specs.Contents.{IsShortName, IsShortPath, IsPathText, name_lawful, path_content}
use Rattle.jj_paths.specs.Paths.{path_string}

pub name_contents : AreContents IsShortName string_content (IsContentOf IsShortName string_content)
name_contents = contents_of name_lawful (λ name valid. string_nonempty name valid.1.1)

text_contents : AreContents IsPathText string_content (IsContentOf IsPathText string_content)
text_contents = contents_of (narrow_lawful (λ _ valid. valid.1.1) string_lawful)
    (λ text valid. string_nonempty text valid.1.1)

pub path_contents : AreContents IsShortPath path_content (IsContentOf IsPathText string_content)
path_contents = record {
  covers = λ path valid. record { value = path_string path; valid = valid.1; bytes_are = refl };
  prefix_free = text_contents.prefix_free;
  nonempty = text_contents.nonempty;
}
