-- What the functions take and give, without where it lies in memory.
use Rattle.std.specs.Prelude.{◌≡◌, List, Result, Ok, Err}
use Rattle.ij_text.specs.Reading.{Stop as Unfit}
use Rattle.icl_lexer.specs.declared.words.Limit.{Limit}
use Rattle.icl_lexer.specs.Seen.{SeenToken}
use Rattle.icl_lexer.specs.Grammar.{Counted, Signed}
use Rattle.icl_lexer.specs.Views.{seen_expr}
use Rattle.icl_expressions.specs.declared.stop.ReadStop.{ReadStop}
use Rattle.icl_expressions.specs.declared.stop.ReadStop.TheVariants.{Memory, At}
use Rattle.icl_expressions.specs.declared.reading.Parsed.{Parsed}
use Rattle.icl_expressions.specs.declared.expressions.Counting.{Counting}
use Rattle.icl_expressions.specs.declared.signs.SignAt.{SignAt}

-- a value and the tokens after it
abbrev pub seen_read : {X Y : Type 0} → (X → Y) → Parsed X → Y × List SeenToken
seen_read view r = (view r.value, r.rest)

abbrev pub seen_counting : Counting → Counted
seen_counting c = record { formula = seen_expr c.expr; used = c.used; lone = c.lone }

abbrev pub seen_sign : SignAt → Signed
seen_sign s = record { sign = s.sign; at = s.at }

-- reading stopped so, unless memory ran out
abbrev pub Fails : {Y : Type 0} → ReadStop → Result Y (Unfit Limit) → Type 0
Fails Memory read = Unit {0}
Fails (At n why) read = read ≡ Err (n, why)

-- reading stopped at a token, and not for want of memory
abbrev pub IsAtToken : ReadStop → Type 0
IsAtToken Memory = ⊥
IsAtToken (At n why) = Unit {0}

-- what a function returned, seen by a view, is what reading gives, unless memory ran out
abbrev pub Gives : {X Y : Type 0} → (X → Y) → Result X ReadStop → Result Y (Unfit Limit) → Type 0
Gives view (Ok x) read = read ≡ Ok (view x)
Gives view (Err e) read = Fails e read
