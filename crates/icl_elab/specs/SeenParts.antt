-- What the functions of the second pass give, without where it lies in memory.
use Rattle.std.specs.Prelude.{ℕ, Bool, ◌&&◌, List, [], map, find, Option, Ok}
use Rattle.std.specs.Option.{option_map}
use Rattle.std.specs.Str.{bytes_eq}
use Rattle.ij_bits.specs.Room.{Listed}
use Rattle.ij_bits.specs.declared.tern.Tern.{Tern}
use Rattle.ij_text.specs.Numbers.{tern_bits}
use Rattle.ij_text.specs.declared.Place.{Place}
use Rattle.icl_lexer.specs.Values.{SeenSig, SeenProp, SeenWhat}
use Rattle.icl_declarations.specs.Faults.{Answer, ◌>>=◌, over}
use Rattle.icl_declarations.specs.Ranges.{width}
use Rattle.icl_frames.specs.FirstPass.{Frame}
use Rattle.icl_elab.specs.declared.ports.Resolved.{Resolved}
use Rattle.icl_elab.specs.declared.registers.RegisterParts.{RegisterParts}
use Rattle.icl_elab.specs.declared.parts.Found.{Found as FoundAt}
use Rattle.icl_references.specs.Names.{Here, Member, known_member}
use Rattle.icl_references.specs.Signals.{alias_signals}
use Rattle.icl_references.specs.Roles.{Word, Selection, AnAliasOf, seen_body, seen_word, seen_refs}
use Rattle.icl_references.specs.Roles.{seen_selection}
use Rattle.icl_elab.specs.FoundParts.{Found, found, Said, nothing_said, register_prop, register_found}
use Rattle.icl_elab.specs.FoundParts.{alias_prop}

abbrev pub seen_words : Listed (Listed ℕ × Tern) → List Word
seen_words words = map seen_word words.items

abbrev pub seen_numbers : Listed ℕ → List ℕ
seen_numbers numbers = numbers.items

abbrev pub seen_selections : Listed (Listed ℕ × ℕ × ℕ) → List Selection
seen_selections selections = map seen_selection selections.items

-- a part that binds nothing
abbrev pub seen_resolved : Resolved → Found
seen_resolved r = record { role = seen_body r.body; words = seen_words r.words; bound = [] }

-- what a register's properties say
abbrev pub seen_said : (frames : List Frame) (here : Here) → RegisterParts → Said frames here
seen_said frames here r = record {
  scan = r.scan;
  capture = option_map seen_refs r.capture;
  reset = option_map tern_bits r.reset;
  words = seen_words r.words;
}

abbrev pub seen_found : FoundAt → Found
seen_found f = record { role = seen_body f.body; words = seen_words f.words; bound = f.bound }

-- ---- what is answered in several steps

-- the first part of this name that passes a test
abbrev pub first_member : (SeenWhat → Bool) → List Member → List ℕ → Option Member
first_member test ms name = find (λ m. test m.item.what && bytes_eq name m.item.name) ms

abbrev pub known_number : Place → List ℕ → Option Member → Answer ℕ
known_number at name m = known_member at name m >>= λ n. Ok n.part

-- what a register is
abbrev pub register_answer : List Frame → Here → Member → List SeenProp → Answer Found
register_answer frames here m props = over (register_prop frames here m) (nothing_said frames here) props
    >>= λ s. Ok (register_found frames here s)

-- what an alias is
abbrev pub alias_answer : List Frame → Here → Member → List SeenSig → List SeenProp → Answer Found
alias_answer frames here m sigs props = alias_signals frames here m.item.at (width m.bounds) sigs
    >>= λ refs. over (alias_prop frames here m) (found (AnAliasOf refs)) props
