-- Reading a text command by command.
use Rattle.std.proofs.Common.{◌≡◌, ℕ, suc, ◌+◌, Bool, true, false, cond, List, [], ◌∷◌, ◌++◌, length, refl}
use Rattle.std.proofs.Common.{ap, sym, ◌∙◌, subst, append_assoc, append-nil, Result, Ok, Err}
use Rattle.std.specs.Prelude.{◌==◌}
use Rattle.ij_text.specs.declared.Place.{Place}
use Rattle.svf_writer.specs.SeenCommands.{SeenCommand}
use Rattle.svf_reader.specs.declared.so_far.ReadSoFar.{ReadSoFar}
use Rattle.svf_reader.specs.declared.fault.SvfFault.{SvfFault}
use Rattle.svf_reader.specs.declared.fault.SvfCause.{SvfCause}
use Rattle.svf_reader.specs.declared.fault.SvfCause.TheVariants.{LeftOut as IsLeftOut, SvfSyntax as Syntax}
use Rattle.svf_reader.specs.declared.fault.SvfCause.TheVariants.{SvfLimit as Limit, HexWide as Wide}
use Rattle.svf_reader.specs.declared.fault.SvfCause.TheVariants.{TdiMissing as NoTdi, OutOfMemory}
use Rattle.ij_text.specs.Places.{place_at}
use Rattle.ij_text.specs.Parts.{before as byte_before}
use Rattle.svf_reader.specs.Texts.{texts, words, plain, blanks}
use Rattle.svf_reader.specs.Meaning.{Cause, LeftOut, SvfSyntax, SvfLimit, HexWide, TdiMissing, Refusal, Step}
use Rattle.svf_reader.specs.Meaning.{listed, before, at_first, at_end, and_then, read_command, read_from, svf}
use Rattle.svf_reader.specs.Reading.{words_of}
use Rattle.svf_reader.specs.Answers.{Fails, AtPlace, Refuses}

pub front_nil : (r : Result (List SeenCommand) Refusal) → before [] r ≡ r
front_nil (Ok cs) = refl
front_nil (Err e) = refl

front_both : (cs ds : List SeenCommand) (r : Result (List SeenCommand) Refusal)
    → before cs (before ds r) ≡ before (cs ++ ds) r
front_both cs ds (Ok es) =
    ap (λ l. let ok : Result (List SeenCommand) Refusal = Ok l in ok) (sym (append_assoc cs ds es))
front_both cs ds (Err e) = refl

some_at : (k : Bool) (b : ℕ) (r : List (List ℕ))
    → (t : List ℕ) × (ts : List (List ℕ)) × (cond k ([] ∷ r) (byte_before b r) ≡ t ∷ ts)
some_at true b r = ([], r, refl)
some_at false b [] = (b ∷ [], [], refl)
some_at false b (t ∷ ts) = (b ∷ t, ts, refl)

pub texts_some : (xs : List ℕ) → (t : List ℕ) × (ts : List (List ℕ)) × (texts xs ≡ t ∷ ts)
texts_some [] = ([], [], refl)
texts_some (b ∷ bs) = some_at (b == 59) b (texts bs)

pub read_more : (kept : ReadSoFar) (at : ℕ) (t xs : List ℕ) → read_from kept at (t ∷ texts xs) ≡ and_then
    (read_command kept true t) (at + blanks t) (λ next. read_from next (suc (at + length t)) (texts xs))
read_more kept at t xs =
    let some = texts_some xs in
    ap (λ (l : List (List ℕ)). read_from kept at (t ∷ l)) some.2
    ∙ ap (λ (l : List (List ℕ)). and_then (read_command kept true t) (at + blanks t)
    (λ next. read_from next (suc (at + length t)) l)) (sym some.2)

module _ (src : List ℕ) (cs : List SeenCommand) (kept : ReadSoFar) (at : ℕ) (all : List (List ℕ))
    (so_far : before cs (read_from kept at all) ≡ svf src) where
  pub refused_here : (t rest : List ℕ) (cause : Cause) → all ≡ t ∷ texts rest
      → read_command kept true t ≡ Err cause → svf src ≡ Err (record { cause = cause; start = at + blanks t })
  refused_here t rest cause e h =
      sym so_far
      ∙ ap (λ l. before cs (read_from kept at l)) e
      ∙ ap (before cs) (read_more kept at t rest)
      ∙ ap (λ r. before cs
      (and_then r (at + blanks t) (λ next. read_from next (suc (at + length t)) (texts rest)))) h

  pub next_here : (t rest : List ℕ) (step : Step) → all ≡ t ∷ texts rest → read_command kept true t ≡ Ok step
      → before (cs ++ listed step.0) (read_from step.1 (suc (at + length t)) (texts rest)) ≡ svf src
  next_here t rest step e h =
      sym (front_both cs (listed step.0) (read_from step.1 (suc (at + length t)) (texts rest)))
      ∙ ap (λ r. before cs
      (and_then r (at + blanks t) (λ next. read_from next (suc (at + length t)) (texts rest)))) (sym h)
      ∙ ap (before cs) (sym (read_more kept at t rest))
      ∙ ap (λ l. before cs (read_from kept at l)) (sym e)
      ∙ so_far

  at_the_end : (t : List ℕ) → all ≡ t ∷ []
      → svf src ≡ before cs (at_end (words t) (read_command kept false t) (at + blanks t))
  at_the_end t e = sym so_far ∙ ap (λ l. before cs (read_from kept at l)) e

  nothing_more : svf src ≡ before cs (Ok []) → svf src ≡ Ok cs
  nothing_more h = h ∙ ap (λ l. let ok : Result (List SeenCommand) Refusal = Ok l in ok) (append-nil cs)

  pub end_none : (t : List ℕ) → all ≡ t ∷ [] → words t ≡ [] → svf src ≡ Ok cs
  end_none t e none = nothing_more
      (at_the_end t e ∙ ap (λ ws. before cs (at_end ws (read_command kept false t) (at + blanks t))) none)

  pub end_ok : (t w : List ℕ) (ws : List (List ℕ)) (step : Step) → all ≡ t ∷ [] → words t ≡ w ∷ ws
      → read_command kept false t ≡ Ok step → svf src ≡ Ok cs
  end_ok t w ws step e some h =
      nothing_more (at_the_end t e
      ∙ ap (λ l. before cs (at_end l (read_command kept false t) (at + blanks t))) some
      ∙ ap (λ r. before cs (at_end (w ∷ ws) r (at + blanks t))) h)

  pub end_refused : (t w : List ℕ) (ws : List (List ℕ)) (cause : Cause) → all ≡ t ∷ []
      → words t ≡ w ∷ ws → read_command kept false t ≡ Err cause
      → svf src ≡ Err (record { cause = cause; start = at + blanks t })
  end_refused t w ws cause e some h =
      at_the_end t e
      ∙ ap (λ l. before cs (at_end l (read_command kept false t) (at + blanks t))) some
      ∙ ap (λ r. before cs (at_end (w ∷ ws) r (at + blanks t))) h

pub refuses : (src : List ℕ) (refused : SvfCause) (at : Place) (fault : SvfFault)
    (r : Result Step Cause) (start : ℕ) → Fails refused r
    → ((cause : Cause) → r ≡ Err cause → svf src ≡ Err (record { cause = cause; start = start }))
    → at ≡ place_at src start → AtPlace refused at fault → Refuses src fault
refuses src (IsLeftOut word) at fault r start h next place e =
    subst (Refuses src) (sym e) (start, next (LeftOut word.items) h, place)
refuses src Syntax at fault r start h next place e =
    subst (Refuses src) (sym e) (start, next SvfSyntax h, place)
refuses src Limit at fault r start h next place e =
    subst (Refuses src) (sym e) (start, next SvfLimit h, place)
refuses src Wide at fault r start h next place e = subst (Refuses src) (sym e) (start, next HexWide h, place)
refuses src NoTdi at fault r start h next place e =
    subst (Refuses src) (sym e) (start, next TdiMissing h, place)
refuses src OutOfMemory at fault r start h next place e = subst (Refuses src) (sym e) tt

pub words_of_is : (text : List ℕ) → words_of text ≡ words (plain text)
unfolding words_of
words_of_is text = refl

pub from_first : (src : List ℕ) (n : ℕ) → n ≡ 0
    → before [] (read_from at_first n (texts (plain src))) ≡ svf src
unfolding svf
from_first src n e = front_nil (read_from at_first n (texts (plain src)))
    ∙ ap (λ k. read_from at_first k (texts (plain src))) e
