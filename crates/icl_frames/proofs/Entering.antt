-- Cells are entered in preorder.
use Rattle.std.proofs.Common.{◌≡◌, ◌+◌, ◌++◌, ℕ, zero, suc, List, [], ◌∷◌, length, Option, Some, None, Ok}
use Rattle.std.proofs.Common.{refl, sym, ap, subst, ◌∙◌, arith, append_assoc, length-append}
use Rattle.std.specs.Prelude.{nat_le}
use Rattle.std.specs.List.{list_any, cons_option}
use Rattle.std.specs.Str.{bytes_eq}
use Rattle.ij_text.specs.declared.Which.TheVariants.{Cells}
use Rattle.icl_lexer.specs.Values.{SeenWhat, APort, ARegister, AMux, AChild, AnAlias, SomeWords, AParameter}
use Rattle.icl_lexer.specs.Values.{AnInterface, ALink, AnAttribute, SeenItem, SeenModule}
use Rattle.icl_declarations.specs.Faults.{Answer, refuse_if, over, InstanceLoop, Limit}
use Rattle.icl_declarations.specs.Values.{Params}
use Rattle.icl_declarations.specs.Parts.{block_named, range_in}
use Rattle.icl_declarations.specs.Ranges.{declared}
use Rattle.icl_declarations.specs.declared.counts.Counts.{Counts}
use Rattle.icl_frames.specs.FirstPass.{Frame, Request, parameters, with_binding, known_block, request, Passed}
use Rattle.icl_frames.specs.FirstPass.{Added, item_additions, with_added, fold_item, nothing_passed}
use Rattle.icl_frames.specs.FirstPass.{fold_items}
use Rattle.icl_frames.specs.FirstPass.{cell_counts, Progress, Entered, cell_of_request, add_subtree}
use Rattle.icl_frames.specs.FirstPass.{with_block}
use Rattle.icl_frames.specs.FirstPass.{nothing_entered, first_pass}
use Rattle.icl_declarations.specs.Naming.{check_item_names}
use Rattle.icl_declarations.specs.Counting.{count_part}
use Rattle.icl_frames.specs.Preorder.{Declared, declared_by, children_of, AreOfChild, AreOfChildren}
use Rattle.icl_frames.specs.Preorder.{AreOfInstance, FramesArePreorder}
use Rattle.icl_frames.proofs.Answering.{both, ok_is}
use Rattle.icl_frames.proofs.Paired.{Paired}

-- ---- the instances that items want

-- an instance is wanted as it is declared
pub record IsRequested (blocks : List SeenModule) (ps : Params) (d : Declared) (r : Request) : Type 0 where
  pub name : r.name ≡ d.name
  pub known : block_named blocks d.module_name ≡ Some r.block
  pub bound : over (with_binding ps r.block) [] d.binds ≡ Ok r.given

known_is : (name : List ℕ) (o : Option SeenModule) (b : SeenModule) → known_block name o ≡ Ok b → o ≡ Some b
known_is name None b h = absurd cc
known_is name (Some c) b h = ap (λ z. Some z) (ok_is c b h)

paired_more : {A B : Type 0} (P : A → B → Type 0) (xs us : List A) (ys vs : List B) → Paired P xs ys
    → Paired P us vs → Paired P (xs ++ us) (ys ++ vs)
paired_more P [] us [] vs p q = q
paired_more P [] us (y ∷ ys) vs p q = absurd p
paired_more P (x ∷ xs) us [] vs p q = absurd p
paired_more P (x ∷ xs) us (y ∷ ys) vs p q = (p.0, paired_more P xs us ys vs p.1 q)

module _ (blocks : List SeenModule) (above : List (List ℕ)) (ps : Params) where
  abbrev ArePaired : List Declared → List Request → Type 0
  ArePaired ds rs = Paired (IsRequested blocks ps) ds rs

  none_requested : (rs : List Request) → ◌≡◌ {A = Answer (List Request)} (Ok []) (Ok rs) → ArePaired [] rs
  none_requested rs h = subst (ArePaired []) (ok_is [] rs h) tt

  requested : (item : SeenItem) (what : SeenWhat) (rs : List Request)
      → request blocks above ps item what ≡ Ok rs → ArePaired (cons_option (declared_by item.name what) []) rs
  requested item (AChild module' binds) rs h =
      let a = both (known_block module' (block_named blocks module')) _ rs h in
      let b = both (refuse_if (list_any (bytes_eq module') above) (InstanceLoop item.at)) _ rs a.then' in
      let c = both (over (with_binding ps a.first) [] binds) _ rs b.then' in
      subst (ArePaired (record { name = item.name; module_name = module'; binds = binds } ∷ [])) (ok_is _ rs
      c.then') (record { name = refl; known = known_is module' _ a.first a.is; bound = c.is }, tt)
  requested item (APort kind range props) rs h = none_requested rs h
  requested item (ARegister range props) rs h = none_requested rs h
  requested item (AMux select rows) rs h = none_requested rs h
  requested item (AnAlias range sigs props) rs h = none_requested rs h
  requested item (SomeWords words) rs h = none_requested rs h
  requested item (AParameter local value) rs h = none_requested rs h
  requested item (AnInterface ports) rs h = none_requested rs h
  requested item (ALink kind entity instrs) rs h = none_requested rs h
  requested item (AnAttribute value) rs h = none_requested rs h

  children_more : (xs : List SeenItem) (item : SeenItem)
      → children_of (xs ++ item ∷ []) ≡ children_of xs ++ cons_option (declared_by item.name item.what) []
  children_more [] item = refl
  children_more (x ∷ xs) item = by_child (declared_by x.name x.what) (children_more xs item)
    where
      by_child : (o : Option Declared)
          → children_of (xs ++ item ∷ []) ≡ children_of xs ++ cons_option (declared_by item.name item.what) []
          → cons_option o (children_of (xs ++ item ∷ []))
          ≡ cons_option o (children_of xs) ++ cons_option (declared_by item.name item.what) []
      by_child None again = again
      by_child (Some d) again = ap (λ ds. d ∷ ds) again

  -- after some items
  pub record ArePassed (s : Passed) (items : List SeenItem) : Type 0 where
    pub items_are : s.items ≡ items
    pub wanted : ArePaired (children_of items) s.requests

  looked : (before : List SeenItem) (c : Counts) (item : SeenItem) (a : Added)
      → item_additions blocks above ps before c item ≡ Ok a
      → ArePaired (cons_option (declared_by item.name item.what) []) a.wanted
  unfolding item_additions
  looked before c item l h =
      let a = both (check_item_names before item) _ l h in
      let b = both (declared ps (range_in item.what)) _ l a.then' in
      let r = both (request blocks above ps item item.what) _ l b.then' in
      let d = both (count_part c b.first item.what) _ l r.then' in
      subst (λ (x : Added). ArePaired (cons_option (declared_by item.name item.what) []) x.wanted)
      (ok_is _ l d.then') (requested item item.what r.first r.is)

  pass_one : (s t : Passed) (items : List SeenItem) (item : SeenItem) → ArePassed s items
      → fold_item blocks above ps s item ≡ Ok t → ArePassed t (items ++ item ∷ [])
  unfolding fold_item
  pass_one s t items item p h =
      let a = both (item_additions blocks above ps s.items s.counts item) _ t h in
      let all : ArePaired (children_of items ++ cons_option (declared_by item.name item.what) [])
      (s.requests ++ a.first.wanted) =
      paired_more (IsRequested blocks ps) (children_of items) (cons_option (declared_by item.name item.what)
      []) s.requests a.first.wanted p.wanted (looked s.items s.counts item a.first a.is) in
      subst (λ (u : Passed). ArePassed u (items ++ item ∷ [])) (ok_is (with_added s item a.first) t a.then')
      (record {
        items_are = ap (λ l. l ++ item ∷ []) p.items_are;
        wanted =
            subst (λ ds. ArePaired ds (s.requests ++ a.first.wanted)) (sym (children_more items item)) all;
      })

  pass_all : (s t : Passed) (items more : List SeenItem) → ArePassed s items
      → over (fold_item blocks above ps) s more ≡ Ok t → ArePassed t (items ++ more)
  pass_all s t items [] p h = subst (ArePassed t) (sym (append_none items))
      (subst (λ (u : Passed). ArePassed u items) (ok_is s t h) p)
    where
      append_none : (l : List SeenItem) → l ++ [] ≡ l
      append_none [] = refl
      append_none (x ∷ l) = ap (λ m. x ∷ m) (append_none l)
  pass_all s t items (x ∷ more) p h =
      let a = both (fold_item blocks above ps s x) _ t h in
      subst (ArePassed t) (append_assoc items (x ∷ []) more)
      (pass_all a.first t (items ++ x ∷ []) more (pass_one s a.first items x p a.is) a.then')

  pub passed : (c : Counts) (block : SeenModule) (s : Passed) → fold_items blocks above ps c block ≡ Ok s
      → ArePaired (children_of block.items) s.requests
  passed c block s h =
      let p = pass_all (nothing_passed c) s [] block.items (record { items_are = refl; wanted = tt }) h in
      p.wanted

-- ---- cells

-- a cell's own frame, and what it wants
pub record IsEntered (blocks : List SeenModule) (parent : Option ℕ) (r : Request) (e : Entered) : Type 0 where
  pub name : e.frame.name ≡ r.name
  pub parent_is : e.frame.parent ≡ parent
  pub block : e.frame.block ≡ r.block
  pub params : parameters r.given r.block ≡ Ok e.frame.params
  pub wanted : Paired (IsRequested blocks e.frame.params) (children_of r.block.items) e.requests

entered : (blocks : List SeenModule) (above : List (List ℕ)) (parent : Option ℕ) (c : Counts) (r : Request)
    (e : Entered) → cell_of_request blocks above parent c r ≡ Ok e → IsEntered blocks parent r e
unfolding cell_of_request
entered blocks above parent c r e h =
    let a = both (parameters r.given r.block) _ e h in
    let b = both (fold_items blocks above a.first c r.block) _ e a.then' in
    let d = both (cell_counts parent r.block b.first) _ e b.then' in
    subst (IsEntered blocks parent r) (ok_is _ e d.then') (record {
      name = refl;
      parent_is = refl;
      block = refl;
      params = a.is;
      wanted = passed blocks above a.first c r.block b.first b.is;
    })

-- the frames that were added
pub record Adds (P : List Frame → Type 0) (s t : Progress) : Type 0 where
  pub added : List Frame
  pub frames : t.frames ≡ s.frames ++ added
  pub good : P added

module _ (blocks : List SeenModule) where
  abbrev Instance : ℕ → ℕ → Option ℕ → Request → List Frame → Type 0
  Instance levels number parent r frames =
      AreOfInstance blocks levels number parent r.name r.block r.given frames

  children_added : (levels : ℕ) (above : List (List ℕ)) (parent : ℕ) (ps : Params) (ds : List Declared)
      (rs : List Request) (s t : Progress) → Paired (IsRequested blocks ps) ds rs
      → ((u v : Progress) (r : Request) → add_subtree levels blocks above (Some parent) u r ≡ Ok v
      → Adds (Instance levels (length u.frames) (Some parent) r) u v)
      → over (add_subtree levels blocks above (Some parent)) s rs ≡ Ok t
      → Adds (AreOfChildren blocks (AreOfInstance blocks levels) (length s.frames) parent ps ds) s t
  children_added levels above parent ps [] [] s t p each h =
      subst (λ (u : Progress). Adds (λ xs. xs ≡ []) s u) (ok_is s t h)
      (record { added = []; frames = sym (append_none s.frames); good = refl })
    where
      append_none : (l : List Frame) → l ++ [] ≡ l
      append_none [] = refl
      append_none (x ∷ l) = ap (λ m. x ∷ m) (append_none l)
  children_added levels above parent ps [] (r ∷ rs) s t p each h = absurd p
  children_added levels above parent ps (d ∷ ds) [] s t p each h = absurd p
  children_added levels above parent ps (d ∷ ds) (r ∷ rs) s t p each h =
      let a = both (add_subtree levels blocks above (Some parent) s r) _ t h in
      let one = each s a.first r a.is in
      let others = children_added levels above parent ps ds rs a.first t p.1 each a.then' in
      let q = p.0 in
      let long : length a.first.frames ≡ length s.frames + length one.added =
      ap length one.frames ∙ length-append s.frames one.added in
      let child : AreOfChild blocks (AreOfInstance blocks levels) (length s.frames) parent ps d one.added =
      record {
        block = r.block;
        given = r.given;
        known = q.known;
        bound = q.bound;
        instance =
            subst (λ n. AreOfInstance blocks levels (length s.frames)
            (Some parent) n r.block r.given one.added)
            q.name one.good;
      } in
      record {
        added = one.added ++ others.added;
        frames = others.frames ∙ ap (λ l. l ++ others.added) one.frames
            ∙ append_assoc s.frames one.added others.added;
        good = (
          one.added,
          others.added,
          refl,
          child,
          subst (λ n. AreOfChildren blocks
              (AreOfInstance blocks levels) n parent ps ds others.added) long others.good,
        );
      }

  instance_added : (levels : ℕ) (above : List (List ℕ)) (parent : Option ℕ) (s t : Progress) (r : Request)
      → add_subtree levels blocks above parent s r ≡ Ok t → Adds (Instance levels (length s.frames) parent
      r) s t
  unfolding add_subtree
  instance_added zero above parent s t r h = absurd cc
  instance_added (suc levels) above parent s t r h =
      let a = both (refuse_if (nat_le 8192 (length s.frames)) (Limit Cells 8192)) _ t h in
      let b = both (cell_of_request blocks (r.block.name ∷ above) parent s.counts r) _ t a.then' in
      let e = entered blocks (r.block.name ∷ above) parent s.counts r b.first b.is in
      let s' : Progress = record { frames = s.frames ++ b.first.frame ∷ []; counts = b.first.counts } in
      let n : length s'.frames ≡ suc (length s.frames) =
      let l = length-append s.frames (b.first.frame ∷ []) in omega (arith, l) in
      let c =
      children_added levels (r.block.name ∷ above) (length s.frames) b.first.frame.params
      (children_of r.block.items) b.first.requests s' t e.wanted
      (λ u v q g. instance_added levels (r.block.name ∷ above) (Some (length s.frames)) u v q g) b.then' in
      record {
        added = b.first.frame ∷ c.added;
        frames = c.frames ∙ append_assoc s.frames (b.first.frame ∷ []) c.added;
        good = (
          e.name,
          e.parent_is,
          e.block,
          e.params,
          subst (λ k. AreOfChildren blocks (AreOfInstance blocks
              levels) k (length s.frames) b.first.frame.params (children_of r.block.items) c.added) n c.good,
        );
      }

pub frames_are_preorder : FramesArePreorder
unfolding first_pass
frames_are_preorder blocks top frames h =
    let a = both (over with_block [] blocks) _ frames h in
    let b = both (known_block top (block_named blocks top)) _ frames a.then' in
    let c = both (add_subtree 65 blocks [] None nothing_entered (record {
      name = [];
      block = b.first;
      given
          = [];
    }))
    _ frames b.then' in
    let d = instance_added blocks 65 [] None nothing_entered c.first
    (record { name = []; block = b.first; given = [] }) c.is in
    record {
      block = b.first;
      known = known_is top _ b.first b.is;
      instance = subst (AreOfInstance blocks 65 0
          None [] b.first []) (sym d.frames ∙ ok_is c.first.frames frames c.then') d.good;
    }
