-- A list of files: its first one, and the others after it.
use Rattle.std.proofs.Common.{◌≡◌, ◌<◌, ◌≤◌, ◌-◌, List, [], ◌∷◌, length, get_or, take, drop, map, refl, sym}
use Rattle.std.proofs.Common.{ap, arith, length-take, length-drop, subst}
use Rattle.std.proofs.lemmas.List.{take_all}
use Rattle.ijtag_core.specs.Files.{AreApart, seen_file}
use Rattle.ijtag_core.specs.declared.made_files.MadeFile.{MadeFile}

-- what stands for a file where there is none
abbrev pub no_file : MadeFile
no_file = record {
  name = record {
    stem = record { ref_ptr = (0, 0); now = [] };
    ending = record { ref_ptr = (0, 0); now = [] };
  };
  text = record { ref_ptr = (0, 0); now = [] };
}

abbrev pub first_of : List MadeFile → MadeFile
first_of files = get_or files 0 no_file

abbrev pub others_of : List MadeFile → List MadeFile
others_of files = take (length files - 1) (drop 1 files)

pub cut : (files : List MadeFile) → 1 ≤ length files → files ≡ first_of files ∷ others_of files
cut [] some = absurd (omega (arith, some))
cut (file ∷ files) some =
    ap (λ (fs : List MadeFile). file ∷ fs) (sym (take_all (length (file ∷ files) - 1) files (omega arith)))

pub seen_cut : (files : List MadeFile) → 1 ≤ length files
    → map seen_file files ≡ seen_file (first_of files) ∷ map seen_file (others_of files)
seen_cut files some = ap (map seen_file) (cut files some)

pub apart_cut : (files : List MadeFile) → 1 ≤ length files → AreApart (map seen_file files)
    → AreApart (seen_file (first_of files) ∷ map seen_file (others_of files))
apart_cut files some apart = subst AreApart (seen_cut files some) apart

pub none_left : (files : List MadeFile) → length files < 1 → files ≡ []
none_left [] few = refl
none_left (file ∷ files) few = absurd (omega (arith, few))

pub shorter : (files : List MadeFile) → 1 ≤ length files → length (others_of files) < length files
shorter files some = omega (arith, some, length-take (length files - 1) (drop 1 files), length-drop 1 files)
