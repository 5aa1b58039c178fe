-- Worked notes: where they are in a text, and what they say of some bits.
use Rattle.std.specs.Prelude.{◌≡◌, ℕ, Bool, true, false, List, [], ◌∷◌, Option, Some, None, codes, map, refl}
use Rattle.svf_notes.specs.declared.scan.Shifted.{Shifted}
use Rattle.svf_notes.specs.declared.scan.Shown.TheVariants.{Written, Expected, Found}
use Rattle.svf_notes.specs.Notes.{digits, note_text, positions_text, values_text}
use Rattle.svf_notes.specs.Explained.{explained}

abbrev two : List (List ℕ)
two = map note_text ((codes " scan 1" ∷ []) ∷ (codes " scan 2 path 1" ∷ codes "   0..0 R writes 1" ∷ []) ∷ [])

-- a note comes after the `;` of its scan, and before what followed there
lines : explained two (codes "SIR 2 TDI (1);\n! a;\nSDR 1 TDI (1);\n")
    ≡ codes "SIR 2 TDI (1);\n!: scan 1\n! a;\nSDR 1 TDI (1);\n!: scan 2 path 1\n!:   0..0 R writes 1\n"
unfolding explained
lines = refl

-- a command on the same line, and an end without a line feed
one_line : explained two (codes "SIR 2 TDI (1);sdr 1 tdi (1);")
    ≡ codes "SIR 2 TDI (1);\n!: scan 1\nsdr 1 tdi (1);\n!: scan 2 path 1\n!:   0..0 R writes 1\n"
unfolding explained
one_line = refl

-- other commands have none, nor has a scan without a note that is left
others : explained [] (codes "STATE RESET;SIR 2 TDI (1);") ≡ codes "STATE RESET;SIR 2 TDI (1);"
unfolding explained
others = refl

abbrev bit : Bool → Option Bool → Bool → Shifted
bit tdi expect found = record { tdi = tdi; expect = expect; found = found }

-- position 0 first: 1 is written, 1 expected and 0 found; 0 is written, and nothing compared; 0, 0 and 0
abbrev three : List Shifted
three = bit true (Some true) false ∷ bit false None true ∷ bit false (Some false) false ∷ []

written : digits Written three ≡ codes "001"
written = refl

expected : digits Expected three ≡ codes "0-1"
expected = refl

found : digits Found three ≡ codes "0-0"
found = refl

-- the update stage holds other bits, and some bit differs
changed : values_text (false ∷ false ∷ false ∷ []) three ≡ codes " writes 001 expects 0-1 finds 0-0"
changed = refl

-- it holds them already, and nothing is compared
kept : values_text (true ∷ false ∷ []) (bit true None true ∷ bit false None false ∷ [])
    ≡ codes " writes 01 as before"
kept = refl

positions : positions_text 11 4 ≡ codes "   14..11 "
unfolding Rattle.std.specs.Fmt.digits
positions = refl
