-- How the outcomes of the two sides of a chain make one another: the item side's from the holder's, the bidder side's from the item's. Assumes nothing.
use Prim.Native.Nat.{ℕ, ◌+◌, ◌-◌, ◌<◌}
use mathlib.Core.Path.{◌≡◌, refl, ◌∙◌, ap, sym, subst}
use mathlib.Core.Bool.{Bool, true, false, ◌&&◌, not}
use mathlib.Core.Logic.{◌⊎◌, inl, inr}
use mathlib.Core.List.{List}
use native.Mathlib.Decide.{ℕ_discrete}
use lib.ListN.{get_or, set}
use lib.Seq.{get_or-set_other}
use Rattle.sets.specs.Bit.{is_set}
use Rattle.sets.proofs.Members.{is_set-empty}
use Rattle.matching.specs.Chain.{End, Sub, Within, Stuck, AllStuck, Closed, Least, Won, Failed, Placed, Taken}
use Rattle.matching.proofs.Holdings.{no_both}
use Rattle.matching.proofs.Steps.{sub_refl, sub_trans, rest_of, rest_has, Chosen, chosen-sub, won-step}

-- ---- the item side

module _ (d : List ℕ) (may : ℕ) (l : List ℕ) (e i b : ℕ) where
  -- the item is given at once
  pub taken-now : Won d may l b (set l i (b + 1)) → Taken d may l e i b (set l i (b + 1)) (record { placed = true; entered = e })
  taken-now w =
      record {
        more = sub_refl e;
        won = λ q. w;
        apart = λ q k lk ne h. get_or-set_other l i k (b + 1) 0 ne;
        full = λ q. no_both refl q;
        failed = λ q. no_both refl q;
      }

  module _ (li : i < 32) (lb : b < 64) (wants : is_set (get_or d b 0) i ≡ true) (entered : is_set e i ≡ true) (held : get_or l i 0 ≡ 0 → ⊥)
      (n : List ℕ) (z : ℕ) where
    -- its holder is placed elsewhere
    pub taken-over : Placed d may l e (get_or l i 0 - 1) n (record { placed = true; entered = z })
        → Taken d may l e i b (set n i (b + 1)) (record { placed = true; entered = z })
    taken-over w =
        record {
          more = w.more;
          won = λ q. won-step d may l n i b li lb wants held (w.apart refl i li entered) (w.won refl);
          apart = λ q k lk f h. get_or-set_other n i k (b + 1) 0 f ∙ w.apart refl k lk h;
          full = λ q. no_both refl q;
          failed = λ q. no_both refl q;
        }

    -- its holder may not go without, and finds no other
    pub taken_not : is_set may (get_or l i 0 - 1) ≡ false → Placed d may l e (get_or l i 0 - 1) n (record { placed = false; entered = z })
        → Taken d may l e i b n (record { placed = false; entered = z })
    taken_not stays w =
        record { more = w.more; won = λ q. no_both q refl; apart = λ q. no_both q refl; full = λ q. (held, stays); failed = w.failed }

-- ---- the bidder side

-- nothing of the set is left to enter
pub placed-none : (d : List ℕ) (may : ℕ) (l : List ℕ) (e b : ℕ) → rest_of (get_or d b 0) e ≡ 0 → Placed d may l e b l (record { placed = false; entered = e })
unfolding Sub AllStuck Least
placed-none d may l e b z =
    record {
      more = sub_refl e;
      won = λ q. no_both q refl;
      apart = λ q. no_both q refl;
      failed = λ q. record {
        still = refl;
        wants = λ i li h. gone (is_set w i) (is_set e i) h (sym (rest_has w e i li) ∙ ap (λ (x : ℕ). is_set x i) z ∙ is_set-empty i);
        stuck = λ i li h. inl h;
        least = λ g o v cl. o;
      };
    }
  where
    w : ℕ
    w = get_or d b 0

    gone : (a c : Bool) → a ≡ true → a && not c ≡ false → c ≡ true
    gone true true p q = refl
    gone true false p q = no_both refl q
    gone false c p q = no_both p refl

-- the chosen item is taken
pub placed-now : (d : List ℕ) (may : ℕ) (l : List ℕ) (e b i e' : ℕ) (n : List ℕ) (z : ℕ) → Chosen (get_or d b 0) e i e'
    → Taken d may l e' i b n (record { placed = true; entered = z }) → Placed d may l e b n (record { placed = true; entered = z })
unfolding Sub
placed-now d may l e b i e' n z ch w =
    record {
      more = sub_trans e e' z up w.more;
      won = w.won;
      apart = λ q k lk h. w.apart q k lk (λ r. no_both (sym (ap (is_set e) r) ∙ h) ch.new) (up k lk h);
      failed = λ q. no_both refl q;
    }
  where
    up : Sub e e'
    up = chosen-sub (get_or d b 0) e i e' ch

-- ---- going on after a failure: e, then with the item e', then z, then r; w is the bidder's set

pub stuck-mono : (d : List ℕ) (may : ℕ) (l : List ℕ) (e r i : ℕ) → Sub e r → Stuck d may l e i → Stuck d may l r i
unfolding Stuck
stuck-mono d may l e r i s w = (w.0, w.1, sub_trans (get_or d (get_or l i 0 - 1) 0) e r w.2 s)

module _ (d : List ℕ) (may : ℕ) (l : List ℕ) (i e e' z r w : ℕ) (ch : Chosen w e i e') (ez : Sub e' z) (zr : Sub z r)
    (full : (get_or l i 0 ≡ 0 → ⊥) × (is_set may (get_or l i 0 - 1) ≡ false))
    (here : Sub (get_or d (get_or l i 0 - 1) 0) z)
    (stuck₁ : AllStuck d may l e' z) (stuck₂ : AllStuck d may l z r)
    (least₁ : Least d l e' (get_or d (get_or l i 0 - 1) 0) z) (least₂ : Least d l z w r) where
  at_item : (k : ℕ) → k < 32 → is_set e' k ≡ true → Dec (k ≡ i) → (is_set e k ≡ true) ⊎ Stuck d may l r k
  unfolding Stuck
  at_item k lk h (yes q) =
      inr (subst (λ (x : ℕ). Stuck d may l r x) (sym q) (full.0, full.1, sub_trans (get_or d (get_or l i 0 - 1) 0) z r here zr))
  at_item k lk h (no f) = inl (sym (ch.else k lk f) ∙ h)

  stuck-on : AllStuck d may l e r
  unfolding AllStuck
  stuck-on k lk h =
      elim (stuck₂ k lk h) [
        | inr s ↦ inr s
        | inl hz ↦ elim (stuck₁ k lk hz) [ inr s ↦ inr (stuck-mono d may l z r k zr s) | inl he ↦ at_item k lk he (ℕ_discrete k i) ]
      ]

  module _ (f : ℕ → Bool) (o : Within e f) (wf : Within w f) (cl : Closed d l e f) where
    o' : (k : ℕ) → k < 32 → is_set e' k ≡ true → Dec (k ≡ i) → f k ≡ true
    unfolding Within
    o' k lk h (yes q) = ap f q ∙ wf i ch.small ch.wants
    o' k lk h (no g) = o k lk (sym (ch.else k lk g) ∙ h)

    outside : (x : ℕ) → Sub e x → (k : ℕ) → k < 32 → (b : Bool) → is_set e k ≡ b → is_set x k ≡ false → is_set e k ≡ false
    unfolding Sub
    outside x s k lk true q n = no_both (s k lk q) n
    outside x s k lk false q n = q

    up : Sub e e'
    up = chosen-sub w e i e' ch

    to-z : Within z f
    unfolding Least Within Closed
    to-z =
        least₁ f (λ k lk h. o' k lk h (ℕ_discrete k i))
        (cl i ch.small (wf i ch.small ch.wants) ch.new full.0)
        (λ k lk h n ne. cl k lk h (outside e' up k lk (is_set e k) refl n) ne)

    to-r : Within r f
    unfolding Least Within Closed
    to-r = least₂ f to-z wf (λ k lk h n ne. cl k lk h (outside z (sub_trans e e' z up ez) k lk (is_set e k) refl n) ne)

  least_on : Least d l e w r
  unfolding Least
  least_on f o wf cl = to-r f o wf cl

-- the chosen item's holder has no place; r is what the bidder comes to with the items z that are then entered
pub placed_on : (d : List ℕ) (may : ℕ) (l : List ℕ) (e b i e' : ℕ) (n : List ℕ) (z : ℕ) (n' : List ℕ) (r : End) → Chosen (get_or d b 0) e i e'
    → Taken d may l e' i b n (record { placed = false; entered = z }) → Placed d may n z b n' r → Placed d may l e b n' r
unfolding Sub
placed_on d may l e b i e' n z n' r ch k p =
    record {
      more = sub_trans e z r.entered up p.more;
      won = λ q. subst (λ (x : List ℕ). Won d may x b n') f.still (p.won q);
      apart = λ q j lj h. p.apart q j lj (up j lj h) ∙ ap (λ (x : List ℕ). get_or x j 0) f.still;
      failed = λ q. fails (p.failed q);
    }
  where
    f : Failed d may l e' (get_or d (get_or l i 0 - 1) 0) n z
    f = k.failed refl

    up : Sub e z
    up = sub_trans e e' z (chosen-sub (get_or d b 0) e i e' ch) k.more

    fails : Failed d may n z (get_or d b 0) n' r.entered → Failed d may l e (get_or d b 0) n' r.entered
    fails g =
        let stuck₂ : AllStuck d may l z r.entered = subst (λ (x : List ℕ). AllStuck d may x z r.entered) f.still g.stuck in
        let least₂ : Least d l z (get_or d b 0) r.entered = subst (λ (x : List ℕ). Least d x z (get_or d b 0) r.entered) f.still g.least in
        record {
          still = g.still ∙ f.still;
          wants = g.wants;
          stuck = stuck-on d may l i e e' z r.entered (get_or d b 0) ch k.more p.more (k.full refl) f.wants f.stuck stuck₂ f.least least₂;
          least = least_on d may l i e e' z r.entered (get_or d b 0) ch k.more p.more (k.full refl) f.wants f.stuck stuck₂ f.least least₂;
        }
