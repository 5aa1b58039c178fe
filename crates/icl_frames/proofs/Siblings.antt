-- No two instances of one parent have one name, and each frame's module is one of the design's.
use Rattle.std.proofs.Common.{◌≡◌, ◌⊎◌, ◌+◌, ◌<◌, ◌≤◌, ◌++◌, ℕ, zero, suc, cond, List, [], ◌∷◌, length, map}
use Rattle.std.proofs.Common.{filter, Contains, Option, Some, None, refl, sym, ap, subst, ◌∙◌, arith, inl}
use Rattle.std.proofs.Common.{inr, length-append}
use Rattle.std.specs.List.{AllByRecursion, cons_option}
use Rattle.ij_bits.specs.Different.{AreDifferent}
use Rattle.icl_lexer.specs.Values.{SeenWhat, APort, ARegister, AMux, AChild, AnAlias, SomeWords, AParameter}
use Rattle.icl_lexer.specs.Values.{AnInterface, ALink, AnAttribute, SeenItem, SeenModule}
use Rattle.icl_declarations.specs.Values.{Params}
use Rattle.icl_declarations.specs.Parts.{is_signal}
use Rattle.icl_frames.specs.FirstPass.{Frame}
use Rattle.icl_frames.specs.Preorder.{Declared, declared_by, children_of, AreOfChildren, AreOfInstance}
use Rattle.icl_frames.specs.Laws.{IsBelow, child_names, IsFrame, FramesAreTree}
use Rattle.icl_frames.proofs.Differing.{all_in, find_in}
use Rattle.icl_frames.proofs.Filling.{signal_names}
use Rattle.icl_frames.proofs.Entering.{frames_are_preorder}
use Rattle.icl_frames.proofs.Holding.{frames_are_declared}
use Rattle.icl_frames.proofs.Trees.{IsTree, instance_tree}
use Rattle.ij_bits.proofs.Everywhere.{all_front, all_back, all_both}
use Rattle.ij_bits.proofs.Contained.{first_in, later_in, none_in, cases_in}
use Rattle.ij_bits.proofs.Different.{different_more}
use Rattle.std.proofs.lemmas.List.{map-append}

-- ---- lists in two parts

pub all_weaker : {A : Type 0} (P Q : A → Type 0) (xs : List A) → ((x : A) → P x → Q x)
    → AllByRecursion P xs → AllByRecursion Q xs
all_weaker P Q [] so h = tt
all_weaker P Q (x ∷ xs) so h = (so x h.0, all_weaker P Q xs so h.1)

-- ---- the names of a module's instances

children_in : (items : List SeenItem) (n : List ℕ)
    → Contains (child_names items) n → Contains (signal_names items) n
children_in [] n h = absurd (none_in n h)
children_in (x ∷ items) n h = by_what x.what h (λ k. children_in items n k)
  where
    by_what : (what : SeenWhat) → Contains
        (map (λ (d : Declared). d.name) (cons_option (declared_by x.name what) (children_of items))) n
        → (Contains (child_names items) n → Contains (signal_names items) n)
        → Contains (map (λ (i : SeenItem). i.name) (cond (is_signal what)
        (x ∷ filter (λ i. is_signal i.what) items) (filter (λ i. is_signal i.what) items))) n
    by_what (AChild module' binds) k again = by_place (cases_in x.name n (child_names items) k)
      where
        by_place : (x.name ≡ n) ⊎ Contains (child_names items) n → Contains (x.name ∷ signal_names items) n
        by_place (inl e) = subst (Contains (x.name ∷ signal_names items)) e
            (first_in x.name (signal_names items))
        by_place (inr c) = later_in x.name n (signal_names items) (again c)
    by_what (APort kind range props) k again = later_in x.name n (signal_names items) (again k)
    by_what (ARegister range props) k again = later_in x.name n (signal_names items) (again k)
    by_what (AMux select rows) k again = later_in x.name n (signal_names items) (again k)
    by_what (AnAlias range sigs props) k again = later_in x.name n (signal_names items) (again k)
    by_what (SomeWords words) k again = again k
    by_what (AParameter local value) k again = again k
    by_what (AnInterface ports) k again = again k
    by_what (ALink kind entity instrs) k again = again k
    by_what (AnAttribute value) k again = again k

children_differ : (items : List SeenItem)
    → AreDifferent (signal_names items) → AreDifferent (child_names items)
children_differ [] h = tt
children_differ (x ∷ items) h = by_what x.what h (λ k. children_differ items k)
  where
    by_what : (what : SeenWhat) → AreDifferent (map (λ (i : SeenItem). i.name) (cond (is_signal what)
        (x ∷ filter (λ i. is_signal i.what) items) (filter (λ i. is_signal i.what) items)))
        → (AreDifferent (signal_names items) → AreDifferent (child_names items))
        → AreDifferent
        (map (λ (d : Declared). d.name) (cons_option (declared_by x.name what) (children_of items)))
    by_what (AChild module' binds) k again = (λ c. k.0 (children_in items x.name c), again k.1)
    by_what (APort kind range props) k again = again k.1
    by_what (ARegister range props) k again = again k.1
    by_what (AMux select rows) k again = again k.1
    by_what (AnAlias range sigs props) k again = again k.1
    by_what (SomeWords words) k again = again k
    by_what (AParameter local value) k again = again k
    by_what (AnInterface ports) k again = again k
    by_what (ALink kind entity instrs) k again = again k
    by_what (AnAttribute value) k again = again k

-- ---- keys: a parent and a name

abbrev pub Key : Type 0
Key = Option ℕ × List ℕ

abbrev pub keys_of : List Frame → List Key
keys_of frames = map (λ f. (f.parent, f.name)) frames

abbrev pub IsWithin : ℕ → ℕ → Option ℕ → Type 0
IsWithin low high None = ⊥
IsWithin low high (Some p) = (low ≤ p) × (p < high)

abbrev pub AreNamed : Frame → Type 0
AreNamed f = AreDifferent (child_names f.block.items)

abbrev pub IsOwnKey : ℕ → ℕ → Option ℕ → List ℕ → Key → Type 0
IsOwnKey low high parent name k = (k ≡ (parent, name)) ⊎ IsWithin low high k.0

abbrev pub IsChildKey : ℕ → ℕ → ℕ → List Declared → Key → Type 0
IsChildKey low high parent ds k =
    ((k.0 ≡ Some parent) × Contains (map (λ d. d.name) ds) k.1) ⊎ IsWithin low high k.0

-- the keys of an instance's frames
pub record AreOwnKeys (number : ℕ) (parent : Option ℕ) (name : List ℕ) (fs : List Frame) : Type 0 where
  pub differ : AreDifferent (keys_of fs)
  pub each : AllByRecursion (IsOwnKey number (number + length fs) parent name) (keys_of fs)

-- the keys of the frames of children
pub record AreChildKeys (number parent : ℕ) (ds : List Declared) (fs : List Frame) : Type 0 where
  pub differ : AreDifferent (keys_of fs)
  pub each : AllByRecursion (IsChildKey number (number + length fs) parent ds) (keys_of fs)

wider : (low high low' high' : ℕ) (o : Option ℕ) → low' ≤ low → high ≤ high'
    → IsWithin low high o → IsWithin low' high' o
wider low high low' high' None a b w = absurd w
wider low high low' high' (Some p) a b (u, v) = (omega (arith, a, u), omega (arith, b, v))

not_within : (number low high : ℕ) (parent : Option ℕ) → IsBelow number parent
    → number ≤ low → IsWithin low high parent → ⊥
not_within number low high None b l w = w
not_within number low high (Some p) b l (u, v) = absurd (omega (arith, b, l, u))

not_both : (low mid mid' high : ℕ) (o : Option ℕ) → mid ≤ mid' → IsWithin low mid o → IsWithin mid' high o → ⊥
not_both low mid mid' high None m v w = v
not_both low mid mid' high (Some p) m (a, b) (c, d) = absurd (omega (arith, m, b, c))

keys_apart : (number high last parent : ℕ) (d : Declared) (ds : List Declared) (k : Key) → parent < number
    → number ≤ high → (Contains (map (λ (e : Declared). e.name) ds) d.name → ⊥)
    → IsOwnKey number high (Some parent) d.name k → IsChildKey high last parent ds k → ⊥
keys_apart number high last parent d ds k lt le new (inl e) (inl (o, c)) =
    new (subst (Contains (map (λ (e : Declared). e.name) ds)) (ap (λ (q : Key). q.1) e) c)
keys_apart number high last parent d ds k lt le new (inl e) (inr w) =
    not_within number high last (Some parent) lt le (subst (IsWithin high last) (ap (λ (q : Key). q.0) e) w)
keys_apart number high last parent d ds k lt le new (inr w) (inl (o, c)) =
    not_within number number high (Some parent) lt (omega arith) (subst (IsWithin number high) o w)
keys_apart number high last parent d ds k lt le new (inr v) (inr w) =
    not_both number high high last k.0 (omega arith) v w

own_is_child : (number high last parent : ℕ) (d : Declared) (ds : List Declared) (k : Key) → high ≤ last
    → IsOwnKey number high (Some parent) d.name k → IsChildKey number last parent (d ∷ ds) k
own_is_child number high last parent d ds k le (inl e) =
    inl (
      ap (λ (q : Key). q.0) e,
      subst (Contains (d.name ∷ map (λ (e : Declared). e.name) ds))
          (sym (ap (λ (q : Key). q.1) e)) (first_in d.name (map (λ (e : Declared). e.name) ds)),
    )
own_is_child number high last parent d ds k le (inr w) =
    inr (wider number high number last k.0 (omega arith) le w)

later_child : (number high last last' parent : ℕ) (d : Declared) (ds : List Declared) (k : Key)
    → number ≤ high → last ≤ last'
    → IsChildKey high last parent ds k → IsChildKey number last' parent (d ∷ ds) k
later_child number high last last' parent d ds k le le' (inl (o, c)) =
    inl (o, later_in d.name k.1 (map (λ (e : Declared). e.name) ds) c)
later_child number high last last' parent d ds k le le' (inr w) =
    inr (wider high last number last' k.0 le le' w)

child_within : (number last last' : ℕ) (ds : List Declared) (k : Key) → last ≤ last' → suc number ≤ last'
    → IsChildKey (suc number) last number ds k → IsWithin number last' k.0
child_within number last last' ds k le room (inl (o, c)) =
    subst (IsWithin number last') (sym o) (omega arith, room)
child_within number last last' ds k le room (inr w) =
    wider (suc number) last number last' k.0 (omega arith) le w

module _ (blocks : List SeenModule) where
  -- each child's frames
  abbrev EachKeys : ℕ → ℕ → Type 0
  EachKeys levels parent =
      (n : ℕ) (name : List ℕ) (block : SeenModule) (given : Params) (gs : List Frame)
      → IsBelow n (Some parent) → AllByRecursion AreNamed gs
      → AreOfInstance blocks levels n (Some parent) name block given gs → AreOwnKeys n (Some parent) name gs

  children_keys : (levels number parent : ℕ) (params : Params) (ds : List Declared) (fs : List Frame)
      → EachKeys levels parent
      → parent < number → AreDifferent (map (λ (d : Declared). d.name) ds) → AllByRecursion AreNamed fs
      → AreOfChildren blocks (AreOfInstance blocks levels) number parent params ds fs
      → AreChildKeys number parent ds fs
  children_keys levels number parent params [] fs each lt differ named h =
      subst (AreChildKeys number parent []) (sym h) (record { differ = tt; each = tt })
  children_keys levels number parent params (d ∷ ds) fs each lt differ named (xs, ys, e, child, others) =
      let all = subst (AllByRecursion AreNamed) e named in
      let one = each number d.name child.block child.given xs lt
      (all_front AreNamed xs ys all) child.instance in
      let rest = children_keys levels (number + length xs) parent params ds ys each
      (omega (arith, lt)) differ.1 (all_back AreNamed xs ys all) others in
      let long = length-append xs ys in
      let keys : keys_of (xs ++ ys) ≡ keys_of xs ++ keys_of ys =
      map-append (λ (f : Frame). (f.parent, f.name)) xs ys in
      subst (AreChildKeys number parent (d ∷ ds)) (sym e) (record {
        differ = subst AreDifferent (sym keys)
            (different_more (keys_of xs) (keys_of ys) one.differ rest.differ
            (λ k c b. keys_apart number (number + length xs)
            (number + length xs + length ys) parent d ds k lt (omega arith) differ.0
            (all_in (IsOwnKey number (number + length xs) (Some parent) d.name) (keys_of xs) k one.each c)
            (all_in (IsChildKey (number + length xs) (number + length xs + length ys) parent ds)
            (keys_of ys) k rest.each b)));
        each = subst (AllByRecursion (IsChildKey number (number + length (xs ++ ys)) parent (d ∷ ds)))
            (sym keys) (all_both (IsChildKey number (number + length (xs ++ ys)) parent (d ∷ ds))
            (keys_of xs) (keys_of ys)
            (all_weaker (IsOwnKey number (number + length xs) (Some parent) d.name)
            (IsChildKey number (number + length (xs ++ ys)) parent (d ∷ ds)) (keys_of xs)
            (λ k o. own_is_child number (number + length xs)
            (number + length (xs ++ ys)) parent d ds k (omega (arith, long)) o) one.each)
            (all_weaker (IsChildKey (number + length xs) (number + length xs + length ys) parent ds)
            (IsChildKey number (number + length (xs ++ ys)) parent (d ∷ ds)) (keys_of ys)
            (λ k o. later_child number (number + length xs) (number + length xs + length ys)
            (number + length (xs ++ ys)) parent d ds k (omega arith) (omega (arith, long)) o) rest.each));
      })

  instance_keys : (levels number : ℕ) (parent : Option ℕ) (name : List ℕ) (block : SeenModule)
      (given : Params) (fs : List Frame) → IsBelow number parent → AllByRecursion AreNamed fs
      → AreOfInstance blocks levels number parent name block given fs → AreOwnKeys number parent name fs
  instance_keys zero number parent name block given fs b named h = absurd h
  instance_keys (suc levels) number parent name block given [] b named h = absurd h
  instance_keys (suc levels) number parent name block given (f ∷ fs) b named
      (called, parent_is, block_is, params_are, kids) =
      let differ : AreDifferent (child_names block.items) =
      subst (λ (m : SeenModule). AreDifferent (child_names m.items)) block_is named.0 in
      let rest =
      children_keys levels (suc number) number f.params (children_of block.items) fs (λ n m c g gs s i j.
      instance_keys levels n (Some number) m c g gs s i j) (omega arith) differ named.1 kids in
      let within : AllByRecursion (λ (k : Key). IsWithin number (number + suc (length fs)) k.0) (keys_of fs) =
      all_weaker (IsChildKey (suc number) (suc number + length fs) number (children_of block.items))
      (λ (k : Key). IsWithin number (number + suc (length fs)) k.0) (keys_of fs)
      (λ k o. child_within number (suc number + length fs) (number + suc (length fs))
      (children_of block.items) k (omega arith) (omega arith) o) rest.each in
      let new : Contains (keys_of fs) (f.parent, f.name)
      → ⊥ = λ (c : Contains (keys_of fs) (f.parent, f.name)).
      not_within number number (number + suc (length fs)) parent b (omega arith)
      (subst (IsWithin number (number + suc (length fs))) parent_is (all_in (λ (k : Key). IsWithin number
      (number + suc (length fs)) k.0) (keys_of fs) (f.parent, f.name) within c)) in
      let own : ◌≡◌ {A = Key} (f.parent, f.name) (parent, name) =
      ap (λ (p : Option ℕ). (p, f.name)) parent_is ∙ ap (λ (n : List ℕ). (parent, n)) called in
      record {
        differ = (new, rest.differ);
        each = (
          inl own,
          all_weaker (λ (k : Key). IsWithin number (number + suc (length fs)) k.0)
              (IsOwnKey number (number + suc (length fs)) parent name) (keys_of fs) (λ k w. inr w) within,
        );
      }

  -- ---- modules

  -- each child's frames
  abbrev EachBlocks : ℕ → ℕ → Type 0
  EachBlocks levels parent =
      (n : ℕ) (name : List ℕ) (block : SeenModule) (given : Params) (gs : List Frame) → Contains blocks block
      → AreOfInstance blocks levels n (Some parent) name block given gs
      → AllByRecursion (λ (f : Frame). Contains blocks f.block) gs

  children_blocks : (levels number parent : ℕ) (params : Params) (ds : List Declared) (fs : List Frame)
      → EachBlocks levels parent
      → AreOfChildren blocks (AreOfInstance blocks levels) number parent params ds fs
      → AllByRecursion (λ (f : Frame). Contains blocks f.block) fs
  children_blocks levels number parent params [] fs each h =
      subst (AllByRecursion (λ (f : Frame). Contains blocks f.block)) (sym h) tt
  children_blocks levels number parent params (d ∷ ds) fs each (xs, ys, e, child, others) =
      subst (AllByRecursion (λ (f : Frame). Contains blocks f.block)) (sym e)
      (all_both (λ (f : Frame). Contains blocks f.block) xs ys (each number d.name child.block child.given xs
      (find_in _ blocks child.block child.known) child.instance)
      (children_blocks levels (number + length xs) parent params ds ys each others))

  instance_blocks : (levels number : ℕ) (parent : Option ℕ) (name : List ℕ) (block : SeenModule)
      (given : Params) (fs : List Frame) → Contains blocks block
      → AreOfInstance blocks levels number parent name block given fs
      → AllByRecursion (λ (f : Frame). Contains blocks f.block) fs
  instance_blocks zero number parent name block given fs c h = absurd h
  instance_blocks (suc levels) number parent name block given [] c h = absurd h
  instance_blocks (suc levels) number parent name block given (f ∷ fs) c
      (called, parent_is, block_is, params_are, kids) = (
        subst (Contains blocks) (sym block_is) c,
        children_blocks levels (suc number) number f.params (children_of block.items) fs
            (λ n m b g gs i j. instance_blocks levels n (Some number) m b g gs i j) kids,
      )

some_frame : (blocks : List SeenModule) (levels number : ℕ) (parent : Option ℕ) (name : List ℕ)
    (block : SeenModule) (given : Params) (fs : List Frame)
    → AreOfInstance blocks levels number parent name block given fs → 1 ≤ length fs
some_frame blocks zero number parent name block given fs h = absurd h
some_frame blocks (suc levels) number parent name block given [] h = absurd h
some_frame blocks (suc levels) number parent name block given (f ∷ fs) h = omega arith

pub frames_are_tree : FramesAreTree
frames_are_tree blocks top frames h =
    let p = frames_are_preorder blocks top frames h in
    let named = all_weaker IsFrame AreNamed frames (λ f i. children_differ f.block.items i.signals)
    (frames_are_declared blocks top frames h) in
    let none : IsTree [] = record { below = tt; few_levels = tt; declared_are = tt } in
    let t = instance_tree blocks 65 0 None [] p.block [] [] frames
    (record { long = refl; tree = none; below = refl; room = omega arith; stands = tt }) p.instance in
    record {
      some = some_frame blocks 65 0 None [] p.block [] frames p.instance;
      parents = t.below;
      siblings = (instance_keys blocks 65 0 None [] p.block [] frames refl named p.instance).differ;
      few_levels = t.few_levels;
      blocks_are = instance_blocks blocks 65 0 None [] p.block [] frames
          (find_in _ blocks p.block p.known) p.instance;
      declared_are = t.declared_are;
    }
