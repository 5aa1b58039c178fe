-- A number with a size has a bit, in an expression and among the parameters of every frame.
use Rattle.std.proofs.Common.{◌≡◌, ◌+◌, ◌≤◌, ◌==◌, ℕ, zero, suc, Bool, true, false, not, cond, ◌&&◌, List, []}
use Rattle.std.proofs.Common.{◌∷◌, length, Option, Some, None, Ok, Err, refl, sym, subst, arith}
use Rattle.std.specs.Prelude.{nat_lt, get_or, IfSome, is_some}
use Rattle.std.specs.Str.{bytes_eq}
use Rattle.std.specs.List.{AllByRecursion}
use Rattle.std.proofs.lemmas.Bool.{and_parts, ltb-true}
use Rattle.std.proofs.lemmas.List.FromFn.{length-map-range_with_len}
use Rattle.ij_text.specs.declared.Place.{Place}
use Rattle.ij_text.specs.Numbers.{decimal_from}
use Rattle.icl_lexer.specs.Values.{SeenExpr, ADecimal, ASized, AQuoted, AParam, AnOp, SeenBind, ABoundPort}
use Rattle.icl_lexer.specs.Values.{ABoundParameter, ABoundAttribute, SeenWhat, APort, ARegister, AMux, AChild}
use Rattle.icl_lexer.specs.Values.{AnAlias, SomeWords, AParameter, AnInterface, ALink, AnAttribute, SeenItem}
use Rattle.icl_lexer.specs.Values.{SeenModule}
use Rattle.icl_declarations.specs.Faults.{Answer, ◌>>=◌, refuse_if, NoName, DoubleName, BadNumber}
use Rattle.icl_declarations.specs.Values.{OpenBits, ParamValue, AnInteger, SomeBits, AText, Given, Params}
use Rattle.icl_declarations.specs.Values.{param_value, with_param}
use Rattle.icl_declarations.specs.Sized.{front, after, normalized_digits, based_number_bits, fits, in_width}
use Rattle.icl_declarations.specs.Sized.{within_size}
use Rattle.icl_declarations.specs.Sized.{at_most_4096}
use Rattle.icl_declarations.specs.Expressions.{as_integer, known, parameter, size, parameter_size, size_of}
use Rattle.icl_declarations.specs.Expressions.{told, number_of_size, sized_number, operate, fault_place}
use Rattle.icl_declarations.specs.Expressions.{evaluate}
use Rattle.icl_declarations.specs.Parts.{is_bindable}
use Rattle.icl_frames.specs.FirstPass.{Frame, param_in, bound_value, with_parameter, parameters, with_binding}
use Rattle.icl_frames.specs.FirstPass.{first_pass}
use Rattle.icl_frames.specs.Preorder.{Declared, OfInstance, AreOfChildren, AreOfInstance, children_of}
use Rattle.icl_frames.proofs.Answering.{both, ok_is, over_all}
use Rattle.icl_frames.proofs.Entering.{frames_are_preorder}
use Rattle.ij_bits.proofs.Everywhere.{all_both}

abbrev pub IsSound : ParamValue → Type 0
IsSound (SomeBits true bits) = 1 ≤ length bits
IsSound (SomeBits false bits) = Unit {0}
IsSound (AnInteger n) = Unit {0}
IsSound (AText text) = Unit {0}

abbrev pub AreSound : Params → Type 0
AreSound ps = AllByRecursion (λ (p : Given). IsSound p.value) ps

-- ---- parameters by their names

value_found : (ps : Params) (name : List ℕ) → AreSound ps → IfSome (param_value ps name) IsSound
value_found [] name h = tt
value_found (p ∷ ps) name h = by_test (bytes_eq name p.name) (value_found ps name h.1)
  where
    by_test : (b : Bool) → IfSome (param_value ps name) IsSound
        → IfSome (cond b (Some p.value) (param_value ps name)) IsSound
    by_test true again = h.0
    by_test false again = again

with_param_kept : (ps : Params) (name : List ℕ) (w : ParamValue) → AreSound ps
    → IsSound w → AreSound (with_param ps name w)
with_param_kept [] name w h g = (g, tt)
with_param_kept (p ∷ ps) name w h g = by_test (bytes_eq name p.name) (with_param_kept ps name w h.1 g)
  where
    by_test : (b : Bool) → AreSound (with_param ps name w)
        → AreSound (cond b (record p { value = w } ∷ ps) (p ∷ with_param ps name w))
    by_test true again = (g, h.1)
    by_test false again = (h.0, again)

-- ---- sized numbers

abbrev IsSize : Option ℕ → Type 0
IsSize o = IfSome o (λ n. 1 ≤ n)

size_is : (at : Place) (n : ℕ) (o : Option ℕ) → size at n ≡ Ok o → IsSize o
size_is at n o h = by_test (nat_lt 0 n && nat_lt n 4097) refl h
  where
    by_test : (b : Bool) → (nat_lt 0 n && nat_lt n 4097) ≡ b
        → cond {A = Answer (Option ℕ)} b (Ok (Some n)) (Err (BadNumber at)) ≡ Ok o → IsSize o
    by_test true e g =
        let p = ltb-true 0 n (and_parts (nat_lt 0 n) (nat_lt n 4097) e).0 in
        let le : 1 ≤ n = omega (arith, p) in
        subst IsSize (ok_is (Some n) o g) le
    by_test false e g = absurd cc

size_of_is : (ps : Params) (at : Place) (text : List ℕ) (o : Option ℕ) → size_of ps at text ≡ Ok o → IsSize o
unfolding size_of
size_of_is ps at [] o h = subst IsSize (ok_is None o h) tt
size_of_is ps at (b ∷ bs) o h = by_test (b == 36) h
  where
    of_parameter : parameter_size ps at bs ≡ Ok o → IsSize o
    of_parameter g =
        let a = both (parameter ps at bs >>= as_integer at) (size at) o g in size_is at a.first o a.then'

    by_test : (t : Bool)
        → cond t (parameter_size ps at bs) (size at (decimal_from 0 (b ∷ bs))) ≡ Ok o → IsSize o
    by_test true g = of_parameter g
    by_test false g = size_is at (decimal_from 0 (b ∷ bs)) o g

told_free : (at : Place) (o : Option OpenBits) (w : ParamValue) → told at false o ≡ Ok w → IsSound w
told_free at None w h = absurd cc
told_free at (Some bits) w h = subst IsSound (ok_is (SomeBits false bits) w h) tt

told_sized : (at : Place) (n : ℕ) (bits : OpenBits) (w : ParamValue) → 1 ≤ n
    → told at true (within_size n bits) ≡ Ok w → IsSound w
told_sized at n bits w le h = by_test (fits n bits) h
  where
    by_test : (b : Bool) → told at true (cond b (Some (in_width n bits)) None) ≡ Ok w → IsSound w
    by_test true g =
        subst IsSound (ok_is (SomeBits true (in_width n bits)) w g)
        (subst (λ k. 1 ≤ k) (sym (length-map-range_with_len (λ k. get_or bits k (Some false)) 0 n)) le)
    by_test false g = absurd cc

number_sound : (at : Place) (o : Option OpenBits) (n : Option ℕ) (w : ParamValue) → IsSize n
    → number_of_size at o n ≡ Ok w → IsSound w
number_sound at None n w s h = absurd cc
number_sound at (Some bits) None w s h = told_free at (at_most_4096 bits) w h
number_sound at (Some bits) (Some n) w s h = told_sized at n bits w s h

-- ---- expressions

known_sound : (at : Place) (name : List ℕ) (o : Option ParamValue) (w : ParamValue)
    → IfSome o IsSound → known at name o ≡ Ok w → IsSound w
known_sound at name None w g h = absurd cc
known_sound at name (Some v) w g h = subst IsSound (ok_is v w h) g

pub evaluate_sound : (ps : Params) (at : Place) (e : SeenExpr) (w : ParamValue)
    → AreSound ps → evaluate ps at e ≡ Ok w → IsSound w
unfolding evaluate sized_number
evaluate_sound ps at (ADecimal n) w g h = subst IsSound (ok_is (AnInteger n) w h) tt
evaluate_sound ps at (ASized text) w g h =
    let a = both (size_of ps at (front text)) (number_of_size at (based_number_bits (normalized_digits
    (after text)))) w h in
    number_sound at (based_number_bits (normalized_digits (after text))) a.first w
    (size_of_is ps at (front text) a.first a.is) a.then'
evaluate_sound ps at (AQuoted text) w g h = subst IsSound (ok_is (AText text) w h) tt
evaluate_sound ps at (AParam place name) w g h =
    known_sound place name (param_value ps name) w (value_found ps name g) h
evaluate_sound ps at (AnOp place sign x y) w g h =
    let a = both (evaluate ps at x >>= as_integer (fault_place at x)) _ w h in
    let b = both (evaluate ps at y >>= as_integer (fault_place at y)) _ w a.then' in
    let c = both (operate place sign a.first b.first) _ w b.then' in
    subst IsSound (ok_is (AnInteger c.first) w c.then') tt

-- ---- the parameters of frames

in_sound : (given ps : Params) (at : Place) (name : List ℕ) (e : SeenExpr) (o : Option ParamValue)
    (w : ParamValue) → AreSound ps → IfSome o IsSound → param_in given ps at name e o ≡ Ok w → IsSound w
in_sound given ps at name e None w g i h = evaluate_sound ps at e w g h
in_sound given ps at name e (Some v) w g i h = subst IsSound (ok_is v w h) i

bound_is : (given : Params) (local : Bool) (name : List ℕ) → AreSound given
    → IfSome (bound_value given local name) IsSound
bound_is given true name g = tt
bound_is given false name g = value_found given name g

parameter_kept : (given ps qs : Params) (item : SeenItem) (what : SeenWhat) → AreSound given → AreSound ps
    → with_parameter given ps item what ≡ Ok qs → AreSound qs
parameter_kept given ps qs item (AParameter local e) g i h =
    let a = both (param_in given ps item.at item.name e (bound_value given local item.name)) _ qs h in
    subst AreSound (ok_is (with_param ps item.name a.first) qs a.then')
    (with_param_kept ps item.name a.first i (in_sound given ps item.at item.name e
    (bound_value given local item.name) a.first i (bound_is given local item.name g) a.is))
parameter_kept given ps qs item (APort kind range props) g i h = subst AreSound (ok_is ps qs h) i
parameter_kept given ps qs item (ARegister range props) g i h = subst AreSound (ok_is ps qs h) i
parameter_kept given ps qs item (AMux select rows) g i h = subst AreSound (ok_is ps qs h) i
parameter_kept given ps qs item (AChild module' binds) g i h = subst AreSound (ok_is ps qs h) i
parameter_kept given ps qs item (AnAlias range sigs props) g i h = subst AreSound (ok_is ps qs h) i
parameter_kept given ps qs item (SomeWords words) g i h = subst AreSound (ok_is ps qs h) i
parameter_kept given ps qs item (AnInterface ports) g i h = subst AreSound (ok_is ps qs h) i
parameter_kept given ps qs item (ALink kind entity instrs) g i h = subst AreSound (ok_is ps qs h) i
parameter_kept given ps qs item (AnAttribute value) g i h = subst AreSound (ok_is ps qs h) i

parameters_sound : (given ps : Params) (block : SeenModule) → AreSound given
    → parameters given block ≡ Ok ps → AreSound ps
parameters_sound given ps block g h =
    over_all (λ qs (item : SeenItem). with_parameter given qs item item.what) AreSound
    (λ qs rs item i e. parameter_kept given qs rs item item.what g i e) [] ps block.items tt h

binding_kept : (ps : Params) (block : SeenModule) (given gs : Params) (b : SeenBind)
    → AreSound ps → AreSound given
    → with_binding ps block given b ≡ Ok gs → AreSound gs
binding_kept ps block given gs (ABoundParameter at name e) g i h =
    let a = both (refuse_if (not (is_bindable block name)) (NoName at name)) _ gs h in
    let b = both (refuse_if (is_some (param_value given name)) (DoubleName at name)) _ gs a.then' in
    let c = both (evaluate ps at e) _ gs b.then' in
    subst AreSound (ok_is (with_param given name c.first) gs c.then')
    (with_param_kept given name c.first i (evaluate_sound ps at e c.first g c.is))
binding_kept ps block given gs (ABoundPort at name range sigs) g i h = subst AreSound (ok_is given gs h) i
binding_kept ps block given gs (ABoundAttribute name value) g i h = subst AreSound (ok_is given gs h) i

abbrev pub AreFramesSound : List Frame → Type 0
AreFramesSound frames = AllByRecursion (λ (f : Frame). AreSound f.params) frames

children_sound : (blocks : List SeenModule) (Is : OfInstance)
    → ((number : ℕ) (parent : Option ℕ) (name : List ℕ) (block : SeenModule) (given : Params) (frames :
    List Frame) → AreSound given → Is number parent name block given frames → AreFramesSound frames)
    → (number parent : ℕ) (ps : Params) → AreSound ps → (ds : List Declared) (frames : List Frame)
    → AreOfChildren blocks Is number parent ps ds frames → AreFramesSound frames
children_sound blocks Is good number parent ps g [] frames h = subst AreFramesSound (sym h) tt
children_sound blocks Is good number parent ps g (d ∷ ds) frames (xs, ys, e, child, others) =
    let given = over_all (with_binding ps child.block) AreSound
    (λ gs hs b i e. binding_kept ps child.block gs hs b g i e) [] child.given d.binds tt child.bound in
    subst AreFramesSound (sym e)
    (all_both (λ (f : Frame). AreSound f.params) xs ys
    (good number (Some parent) d.name child.block child.given xs given child.instance)
    (children_sound blocks Is good (number + length xs) parent ps g ds ys others))

instance_sound : (blocks : List SeenModule) (levels number : ℕ) (parent : Option ℕ) (name : List ℕ)
    (block : SeenModule) (given : Params) (frames : List Frame)
    → AreSound given → AreOfInstance blocks levels number parent name block given frames
    → AreFramesSound frames
instance_sound blocks zero number parent name block given frames g h = absurd h
instance_sound blocks (suc levels) number parent name block given [] g h = absurd h
instance_sound blocks (suc levels) number parent name block given (f ∷ frames) g h =
    let own = parameters_sound given f.params block g h.3 in (
      own,
      children_sound blocks (AreOfInstance blocks levels) (λ n p m b v fs i e. instance_sound blocks
          levels n p m b v fs i e) (suc number) number f.params own (children_of block.items) frames h.4,
    )

pub frames_sound : (blocks : List SeenModule) (top : List ℕ) (frames : List Frame)
    → first_pass blocks top ≡ Ok frames
    → AreFramesSound frames
frames_sound blocks top frames h =
    let p = frames_are_preorder blocks top frames h in
    instance_sound blocks 65 0 None [] p.block [] frames tt p.instance
