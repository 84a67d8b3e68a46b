-- A list of w places that a loop fills one after the other. Assumes nothing.
use Prim.Native.Nat.{ℕ, zero, suc, ◌+◌, ◌-◌, ◌≤◌, ◌<◌, min}
use mathlib.Core.Path.{◌≡◌, refl, sym, ap, ◌∙◌}
use mathlib.Core.List.{List, ◌∷◌, ◌++◌}
use mathlib.Core.Logic.{◌⊎◌, inl, inr}
use native.Mathlib.Omega.{arith}
use native.Mathlib.Nat.{not-suc-le-zero, zero-add}
use lib.ListN.{length, get_or, take, drop, set, length-set, length-replicate, length-append, length-drop, replicate, get_or-replicate, get_or-append, get_or-eq_default}
use lib.Seq.{get_or-set_same, get_or-set_other, get_or-drop, get_or-append-add, get_or-take, length-take-le, ext_get_or}
use borrow.Author.Count.{below_none, below_more}
use Rattle.sets.specs.Lists.{tabulate, places}
use Rattle.sets.proofs.Counting.{lt-or-le}
use Rattle.sets.proofs.Lists.{is-tabulate, places-length, places-at}

pub zeros-at : (n k : ℕ) → ◌≡◌ {A = ℕ} (get_or (replicate n 0) k 0) 0
zeros-at n k = go (lt-or-le k n)
  where
    go : (k < n) ⊎ (n ≤ k) → ◌≡◌ {A = ℕ} (get_or (replicate n 0) k 0) 0
    go (inl l) = get_or-replicate n k 0 0 l
    go (inr l) = get_or-eq_default (replicate n 0) 0 {n = k} (omega (arith, length-replicate {A = ℕ} n 0))

pub take-zeros : (m w : ℕ) → m ≤ w → ◌≡◌ {A = List ℕ} (take m (replicate w 0)) (replicate m 0)
take-zeros zero w l = refl
take-zeros (suc m) zero l = absurd (not-suc-le-zero l)
take-zeros (suc m) (suc w) l = ap (λ (xs : List ℕ). 0 ∷ xs) (take-zeros m w (omega arith))

-- the places below i have what f says, and the others zeros
pub record Filled (w : ℕ) (f : ℕ → ℕ) (i : ℕ) (xs : List ℕ) : Type 0 where
  pub most : i ≤ w
  pub long : length xs ≡ w
  pub done : (k : ℕ) → k < i → get_or xs k 0 ≡ f k
  pub zeros : (k : ℕ) → i ≤ k → get_or xs k 0 ≡ 0

pub fill_start : (w : ℕ) (f : ℕ → ℕ) → Filled w f 0 (replicate w 0)
fill_start w f = record { most = omega arith; long = length-replicate {A = ℕ} w 0; done = below_none _; zeros = λ k l. zeros-at w k }

pub fill-next : (w : ℕ) (f : ℕ → ℕ) (i : ℕ) (xs : List ℕ) (v : ℕ) → Filled w f i xs → i < w → v ≡ f i → Filled w f (i + 1) (set xs i v)
fill-next w f i xs v t l e =
    let long = t.long in
    record {
      most = omega arith;
      long = length-set xs i v ∙ long;
      done = below_more _ _ (λ k lk. get_or-set_other xs i k v 0 (λ q. omega arith) ∙ t.done k lk) (get_or-set_same xs i v 0 (omega arith) ∙ e);
      zeros = λ k lk. get_or-set_other xs i k v 0 (λ q. omega arith) ∙ t.zeros k (omega arith);
    }

pub fill_end : (w : ℕ) (f : ℕ → ℕ) (i : ℕ) (xs : List ℕ) → Filled w f i xs → w ≤ i → xs ≡ tabulate w f 0
fill_end w f i xs t l = is-tabulate w xs f 0 t.long (λ k lk. t.done k (omega arith) ∙ ap f (sym (zero-add k)))

-- the list ends where the filling does
pub fill-places : (w : ℕ) (ys : List ℕ) (i : ℕ) (xs : List ℕ) → Filled w (λ k. get_or ys k 0) i xs → length ys ≤ i → xs ≡ places w ys
unfolding places
fill-places w ys i xs t l = is-tabulate w xs (λ k. get_or ys k 0) 0 t.long (λ k lk. at k (lt-or-le k i) ∙ ap (λ (j : ℕ). get_or ys j 0) (sym (zero-add k)))
  where
    at : (k : ℕ) → (k < i) ⊎ (i ≤ k) → get_or xs k 0 ≡ get_or ys k 0
    at k (inl q) = t.done k q
    at k (inr q) = t.zeros k q ∙ sym (get_or-eq_default ys 0 {n = k} (omega arith))

-- m numbers before zeros
front : (w m : ℕ) (f : ℕ → ℕ) (xs : List ℕ) → m ≤ w → length xs ≡ m → ((k : ℕ) → k < m → get_or xs k 0 ≡ f k) → Filled w f m (xs ++ drop m (replicate w 0))
front w m f xs l e h =
    let rest : List ℕ = drop m (replicate w 0) in
    record {
      most = l;
      long = omega (arith, length-append xs rest, length-drop {A = ℕ} m (replicate w 0), length-replicate {A = ℕ} w 0);
      done = λ k q. get_or-append xs rest 0 k (omega arith) ∙ h k q;
      zeros =
          λ k q.
          let f : k ≡ length xs + (k - length xs) = omega arith in
          ap (λ (j : ℕ). get_or (xs ++ rest) j 0) f ∙ get_or-append-add xs rest (k - length xs) 0 ∙ get_or-drop m (replicate w 0) (k - length xs) 0
          ∙ zeros-at w (m + (k - length xs));
    }

pub front-places : (w m : ℕ) (xs : List ℕ) → m ≤ w → length xs ≡ m → xs ++ drop m (replicate w 0) ≡ places w xs
front-places w m xs l e = fill-places w xs m (xs ++ drop m (replicate w 0)) (front w m (λ k. get_or xs k 0) xs l e (λ k q. refl)) (omega arith)

-- the first numbers of a list, as many as there are places for, before zeros
pub cut-places : (w n : ℕ) (xs ys : List ℕ) → n ≡ min (length xs) w → ys ≡ take n xs → ys ++ drop n (replicate w 0) ≡ places w xs
unfolding places
cut-places w n xs ys m e = go (lt-or-le n w)
  where
    filled : Filled w (λ k. get_or xs k 0) n (ys ++ drop n (replicate w 0))
    filled =
        front w n (λ k. get_or xs k 0) ys (omega arith) (ap length e ∙ length-take-le n xs (omega arith))
        (λ k q. ap (λ (zs : List ℕ). get_or zs k 0) e ∙ get_or-take n xs k 0 q)

    go : (n < w) ⊎ (w ≤ n) → ys ++ drop n (replicate w 0) ≡ places w xs
    go (inl l) = fill-places w xs n (ys ++ drop n (replicate w 0)) filled (omega arith)
    go (inr l) = fill_end w (λ k. get_or xs k 0) n (ys ++ drop n (replicate w 0)) filled l

-- zeros in w places
pub zeros-places : (w m : ℕ) → places w (replicate m 0) ≡ replicate w 0
zeros-places w m =
    ext_get_or 0 (places w (replicate m 0)) (replicate w 0) (places-length w (replicate m 0) ∙ sym (length-replicate {A = ℕ} w 0))
    (λ k h. places-at w (replicate m 0) k (omega (arith, h, places-length w (replicate m 0))) ∙ zeros-at m k ∙ sym (zeros-at w k))
