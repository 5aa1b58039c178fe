-- Worked numbers and words of reports.
use Rattle.std.proofs.Common.{◌≡◌, [], refl}
use Rattle.std.specs.Prelude.{codes}
use Rattle.report.specs.Numbers.{hex_number}
use Rattle.report.specs.Instruments.{word_text, entry_if}

-- five bits take two digits, and one bit takes one
wide : hex_number 5 26 ≡ codes "1A"
wide = refl

narrow : hex_number 1 1 ≡ codes "1"
narrow = refl

-- a word of seven bits; an entry of a memory that is 0 isn't written
word : word_text (codes "count") 7 99 ≡ codes " count=63"
word = refl

no_entry : entry_if (codes "m") 8 3 0 ≡ []
no_entry = refl
