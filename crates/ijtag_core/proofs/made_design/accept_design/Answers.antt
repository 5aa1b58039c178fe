use Rattle.std.proofs.Common.{◌≡◌, ◌∙◌, inl, inr, ap, sym, subst, ℕ, Some, None, List, codes, map}
use Rattle.design_maker.specs.declared.texts.Made.{Made}
use Rattle.ijtag_stages.specs.Follows.{IsFault}
use Rattle.ijtag_stages.specs.declared.refusal.StageFault.{StageFault}
use Rattle.ijtag_stages.specs.declared.refusal.StageFault.TheVariants.{Refused, OutOfMemory}
use Rattle.ijtag_work.specs.Accepted.{SeenAccepted, Texts, accepted, accepted_of}
use Rattle.ijtag_work.specs.Command.{made_names}
use Rattle.ijtag_work.specs.Follows.{AreShort}
use Rattle.ijtag_work.specs.Leaves.{Written}
use Rattle.ijtag_work.specs.Order.{accepted_made, made_inputs, taken, written_as}
use Rattle.ijtag_work.specs.Using.{AreShortTexts, seen_accepted}
use Rattle.ijtag_core.specs.Files.{seen_file, text_of, texts_of}
use Rattle.ijtag_core.specs.declared.made_files.MadeFile.{MadeFile}
use Rattle.ijtag_core.proofs.Exits.{follows_fault}
use Rattle.ijtag_core.proofs.Taking.{bytes_of_all, taken_are, taken_fit}
use Rattle.ijtag_core.proofs.made_design.accept_design.Goals as goal

-- the texts by what they are
abbrev named : List ℕ → List ℕ → List ℕ → List ℕ → Texts
named icl device tables pdl =
    record {
      icl = icl;
      device = device;
      tables = Some tables;
      svf = None;
      top = codes "chip";
      pdl = Some pdl;
      procedure = codes "p";
    }

named_so : (a b c d x y z w : List ℕ) → a ≡ x → b ≡ y → c ≡ z → d ≡ w → named a b c d ≡ named x y z w
named_so a b c d x y z w i v t p = cc

-- a text is refused as it is read
taking_fault : (ws : List Written) (fault : StageFault)
    → IsFault (taken ws) fault → IsFault (accepted_made ws) fault
unfolding accepted_made
taking_fault ws (Refused r) is = inl is
taking_fault ws OutOfMemory is = tt

module _ (stem : List ℕ) (made : Made) (files : List MadeFile) (are : map seen_file files ≡ written_as
    (made_names stem) (texts_of made)) (given : (taken (map seen_file files)).gives (map text_of files)) where
  -- the texts of the design are read
  read_so : (taken (written_as (made_names stem) (texts_of made))).gives (texts_of made)
  read_so =
      let same : map text_of files ≡ texts_of made =
      taken_are (map seen_file files) (map text_of files) given ∙ ap bytes_of_all are in
      let own : (taken (written_as (made_names stem) (texts_of made))).gives (map text_of files) =
      subst (λ (ws : List Written). (taken ws).gives (map text_of files)) are given in
      subst (λ (ts : List (List ℕ)). (taken (written_as (made_names stem) (texts_of made))).gives ts) same own

  fit_so : AreShort (texts_of made)
  fit_so = subst (λ (ws : List Written). AreShort (bytes_of_all ws)) are
      (taken_fit (map seen_file files) (map text_of files) given)

  accepted_so : (it : SeenAccepted) → (accepted_of (made_inputs (texts_of made))).gives it
      → (accepted_made (written_as (made_names stem) (texts_of made))).gives it
  unfolding accepted_made
  accepted_so it is = (texts_of made, read_so, is)

  later_fault : (fault : StageFault) → IsFault (accepted_of (made_inputs (texts_of made))) fault
      → IsFault (accepted_made (written_as (made_names stem) (texts_of made))) fault
  unfolding accepted_made
  later_fault (Refused r) is = inr (texts_of made, read_so, is)
  later_fault OutOfMemory is = tt

pub returns-in_err-check_lengths-clause-follows : goal.returns-in_err-check_lengths-clause-follows
returns-in_err-check_lengths-clause-follows c =
    let ws : List Written = written_as (made_names c.args.stem.now) (texts_of c.args.made.now) in
    let fault : StageFault = c.in_err-check_lengths.field-0.0 in
    let is : IsFault (taken ws) fault = subst
    (λ (vs : List Written). IsFault (taken vs) fault) c.files_of.ensures c.in_err-check_lengths.ensures in
    follows_fault (accepted_made ws) seen_accepted c.from_residual.result fault
    c.from_residual.ensures.1 (taking_fault ws fault is)

abbrev texts_named : Made → Texts
texts_named made = named made.icl.items made.device.items made.tables.items made.pdl.items

pub accept-requires : goal.accept-requires
accept-requires c =
    let made : Made = c.args.made.now in
    let same : named c.as_slice.result.now c.as_slice-2.result.now c.as_slice-3.result.now
    c.as_slice-4.result.now ≡ texts_named made =
    named_so _ _ _ _ _ _ _ _ c.as_slice.ensures c.as_slice-2.ensures
    c.as_slice-3.ensures c.as_slice-4.ensures in
    let short : AreShort (texts_of made) =
    fit_so c.args.stem.now made c.files_of.result c.files_of.ensures c.in_ok-check_lengths.ensures in
    subst AreShortTexts (sym same)
    (record { icl = short.0; device = short.1.1.0; tables = short.1.1.1.0; svf = tt; pdl = short.1.0 })

pub returns-in_err-it-clause-follows : goal.returns-in_err-it-clause-follows
returns-in_err-it-clause-follows c =
    let made : Made = c.args.made.now in
    let ws : List Written = written_as (made_names c.args.stem.now) (texts_of made) in
    let same : named c.as_slice.result.now c.as_slice-2.result.now c.as_slice-3.result.now
    c.as_slice-4.result.now ≡ texts_named made =
    named_so _ _ _ _ _ _ _ _ c.as_slice.ensures c.as_slice-2.ensures
    c.as_slice-3.ensures c.as_slice-4.ensures in
    let fault : StageFault = c.in_err-it.field-0.0 in
    let is : IsFault (accepted (texts_named made)) fault =
    subst (λ (t : Texts). IsFault (accepted t) fault) same c.in_err-it.ensures.follows in
    follows_fault (accepted_made ws) seen_accepted c.from_residual-in_err-it.result fault
    c.from_residual-in_err-it.ensures.1 (later_fault c.args.stem.now made c.files_of.result
    c.files_of.ensures c.in_ok-check_lengths.ensures fault is)

pub returns-clause-follows : goal.returns-clause-follows
returns-clause-follows c =
    let made : Made = c.args.made.now in
    let it : SeenAccepted = seen_accepted c.in_ok-it.it in
    let same : named c.as_slice.result.now c.as_slice-2.result.now c.as_slice-3.result.now
    c.as_slice-4.result.now ≡ texts_named made =
    named_so _ _ _ _ _ _ _ _ c.as_slice.ensures c.as_slice-2.ensures
    c.as_slice-3.ensures c.as_slice-4.ensures in
    let is : (accepted (texts_named made)).gives it =
    subst (λ (t : Texts). (accepted t).gives it) same c.in_ok-it.ensures.follows in
    accepted_so c.args.stem.now made c.files_of.result c.files_of.ensures c.in_ok-check_lengths.ensures it is
