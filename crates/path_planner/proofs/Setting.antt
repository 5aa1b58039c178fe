-- What setting select bits on a path does to what the update stages hold.
use Rattle.std.proofs.Common.{◌≡◌, ◌≢◌, inl, inr, ℕ, Bool, true, false, List, [], ◌∷◌, refl, sym, ap, ◌∙◌}
use Rattle.std.proofs.Common.{subst}
use Rattle.std.proofs.lemmas.Bool.{true≢false}
use Rattle.net_graph.specs.declared.net.BitId.{BitId}
use Rattle.net_graph.specs.Signals.{Holds, bits_at, hold_at}
use Rattle.net_graph.proofs.Shapes.{shape}
use Rattle.net_graph.proofs.Writing.{IsHeld, set_hold-at, set_hold-off, set_hold-shape, set_hold-other}
use Rattle.net_graph.specs.Held.{set_hold}
use Rattle.net_graph.specs.Path.{is_in}
use Rattle.path_planner.specs.Settling.{set_selects}
use Rattle.path_planner.proofs.Among.{Among}
use Rattle.path_planner.proofs.Apart.{Apart}
use Rattle.path_planner.proofs.Values.{TakesOn}

-- one select bit, where it is on the path
abbrev one_set : Bool → Holds → BitId → Bool → Holds
one_set o holds b v = elim o [ true ↦ set_hold holds b v | false ↦ holds ]

one_set-shape : (o : Bool) (holds : Holds) (b : BitId) (v : Bool) → shape (one_set o holds b v) ≡ shape holds
one_set-shape true holds b v = set_hold-shape holds b v
one_set-shape false holds b v = refl

one_set-other : (o : Bool) (holds : Holds) (b c : BitId) (v : Bool) → c ≢ b
    → hold_at (one_set o holds b v) c ≡ hold_at holds c
one_set-other true holds b c v n = set_hold-other holds b c v n
one_set-other false holds b c v n = refl

one_set-off : (o : Bool) (holds : Holds) (b : BitId) (v : Bool) (r : ℕ) → (o ≡ true → r ≢ b.reg)
    → bits_at (one_set o holds b v) r ≡ bits_at holds r
one_set-off true holds b v r n = set_hold-off holds b v r (n refl)
one_set-off false holds b v r n = refl

module _ (path : List ℕ) where
  pub set_selects-shape : (bs : List BitId) (vs : List Bool) (holds : Holds)
      → shape (set_selects path bs vs holds) ≡ shape holds
  set_selects-shape [] vs holds = refl
  set_selects-shape (b ∷ bs) [] holds = refl
  set_selects-shape (b ∷ bs) (v ∷ vs) holds =
      set_selects-shape bs vs (one_set (is_in path b.reg) holds b v)
      ∙ one_set-shape (is_in path b.reg) holds b v

  -- other bits stay
  pub set_selects-other : (bs : List BitId) (vs : List Bool) (holds : Holds) (c : BitId) → (Among c bs → ⊥)
      → hold_at (set_selects path bs vs holds) c ≡ hold_at holds c
  set_selects-other [] vs holds c n = refl
  set_selects-other (b ∷ bs) [] holds c n = refl
  set_selects-other (b ∷ bs) (v ∷ vs) holds c n =
      set_selects-other bs vs (one_set (is_in path b.reg) holds b v) c (λ a. n (inr a))
      ∙ one_set-other (is_in path b.reg) holds b c v (λ e. n (inl (sym e)))

  -- registers off the path stay
  pub set_selects-off : (bs : List BitId) (vs : List Bool) (holds : Holds) (r : ℕ) → is_in path r ≡ false
      → bits_at (set_selects path bs vs holds) r ≡ bits_at holds r
  set_selects-off [] vs holds r f = refl
  set_selects-off (b ∷ bs) [] holds r f = refl
  set_selects-off (b ∷ bs) (v ∷ vs) holds r f =
      set_selects-off bs vs (one_set (is_in path b.reg) holds b v) r f ∙ one_set-off
      (is_in path b.reg) holds b v r (λ t e. true≢false (sym t ∙ ap (is_in path) (sym e) ∙ f))

  -- those on the path take the value
  pub set_selects-on : (bs : List BitId) (vs : List Bool) (holds : Holds) → Apart bs
      → ((b : BitId) → Among b bs → IsHeld (shape holds) b)
      → TakesOn path (set_selects path bs vs holds) bs vs
  set_selects-on [] vs holds a h = tt
  set_selects-on (b ∷ bs) [] holds a h = tt
  set_selects-on (b ∷ bs) (v ∷ vs) holds a h =
      let one = one_set (is_in path b.reg) holds b v in (
        λ t. set_selects-other bs vs one b (λ c. a.0 b c refl) ∙ ap (λ o. hold_at (one_set o holds b v) b) t
            ∙ set_hold-at holds b v (h b (inl refl)),
        set_selects-on bs vs one a.1
            (λ c i. subst (λ w. IsHeld w c) (sym (one_set-shape (is_in path b.reg) holds b v)) (h c (inr i))),
      )

  -- what was taken stays where the bits stay
  pub takes_stay : (s t : Holds) (bs : List BitId) (vs : List Bool)
      → ((b : BitId) → Among b bs → hold_at t b ≡ hold_at s b) → TakesOn path s bs vs → TakesOn path t bs vs
  takes_stay s t [] vs h k = tt
  takes_stay s t (b ∷ bs) [] h k = tt
  takes_stay s t (b ∷ bs) (v ∷ vs) h k =
      (λ o. h b (inl refl) ∙ k.0 o, takes_stay s t bs vs (λ c i. h c (inr i)) k.1)
