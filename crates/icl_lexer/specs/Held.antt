-- What contracts see of short texts and lists, and what their parts hold.
use Rattle.std.specs.Prelude.{ℕ, ◌≤◌, List, [], ◌∷◌, take}
use Rattle.icl_lexer.specs.declared.small_text.Held.{Held}
use Rattle.icl_lexer.specs.declared.small_text.Held.TheVariants.{Near, Far}
use Rattle.icl_lexer.specs.declared.one_or_more.Values.{Values}
use Rattle.icl_lexer.specs.declared.one_or_more.Values.TheVariants.{One, More}

-- the values of a list, or the bytes of a text
pub record Items (T : Type 0) : Type 0 where
  pub items : List T

abbrev pub near_or_far : Held → List ℕ
near_or_far (Near len bytes) = take len bytes
near_or_far (Far bytes) = bytes.value.items

abbrev pub IsNear : Held → Type 0
IsNear (Near len bytes) = len ≤ 14
IsNear (Far bytes) = Unit {0}

abbrev pub one_or_more : {T : Type 0} → Values T → List T
one_or_more (One one) = one ∷ []
one_or_more (More list) = list.items
