-- The forms of an image, as the code has them.
use Rattle.std.specs.Prelude.{◌≡◌, []}
use Rattle.table.specs.Headers.{header_length}
use Rattle.table.specs.Images.{Form}
use Rattle.table.specs.declared.form.Form as declared

-- nothing is stored before the rows
abbrev pub form_of : declared.Form → Form
form_of f = record { format = f.format; begin = f.begin; stored = λ rows. [] }

-- the forms that boxes have: "format 1", with rows right behind the header. It is shut, so that whoever is given a known form goes by the laws on known forms alone
unfoldable pub Known : declared.Form → Type 0
Known f = (f.format ≡ 1) × (f.begin ≡ header_length)
