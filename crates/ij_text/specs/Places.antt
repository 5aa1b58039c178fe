-- Where the bytes of a text stand.
use Rattle.std.specs.Prelude.{ℕ, suc, ◌==◌, cond, List, [], ◌∷◌, take}
use Rattle.ij_text.specs.declared.Place.{Place}

abbrev pub first_place : Place
first_place = record { line = 1; col = 1 }

-- the place of what is in no text
abbrev pub no_place : Place
no_place = record { line = 0; col = 0 }

-- after a line feed (10) a line begins
abbrev pub next_place : Place → ℕ → Place
next_place p b = cond (b == 10) (record { line = suc p.line; col = 1 })
    (record { line = p.line; col = suc p.col })

-- the place of the byte after some bytes that begin at a place
abbrev pub place_after : Place → List ℕ → Place
place_after p [] = p
place_after p (b ∷ bs) = place_after (next_place p b) bs

-- the place after the last byte of a text
abbrev pub end_of : List ℕ → Place
end_of text = place_after first_place text

-- the place of a byte of a text
abbrev pub place_at : List ℕ → ℕ → Place
place_at text n = place_after first_place (take n text)
