-- Runs of stores, one after the other, and lists that are joined. Assumes nothing.
use Prim.Native.Nat.{ℕ, zero, suc, ◌+◌, ◌*◌, ◌≤◌}
use mathlib.Core.Path.{◌≡◌, sym, ap, ◌∙◌}
use mathlib.Core.List.{List, [], ◌∷◌, ◌++◌, append_assoc, append-nil}
use native.Mathlib.Omega.{arith}
use native.Mathlib.Nat.{add-zero, zero-add}
use native.Mathlib.Numerals.{add-one}
use lib.ListN.{length, set, drop}
use lib.Seq.{sets, sets-eq}
use Rattle.lines.specs.Lines.{newline, joined, written_to}

-- a run, and a run right behind it
pub sets-both : (l : List ℕ) (i : ℕ) (vs ws : List ℕ) → sets (sets l i vs) (i + length vs) ws ≡ sets l i (vs ++ ws)
sets-both l i [] ws = ap (λ (k : ℕ). sets l k ws) (add-zero i)
sets-both l i (a ∷ vs) ws =
    let e : i + suc (length vs) ≡ suc i + length vs = omega arith in
    ap (λ (k : ℕ). sets (sets (set l i a) (suc i) vs) k ws) e ∙ sets-both (set l i a) (suc i) vs ws

-- the same, where the place of the second is known by another name
pub sets_then : (l : List ℕ) (i j : ℕ) (vs ws : List ℕ) → i + length vs ≡ j → sets (sets l i vs) j ws ≡ sets l i (vs ++ ws)
sets_then l i j vs ws e = ap (λ (k : ℕ). sets (sets l i vs) k ws) (sym e) ∙ sets-both l i vs ws

-- one more list at the end
pub joined-last : (n : ℕ) (f : ℕ → List ℕ) → joined (suc n) f ≡ joined n f ++ f n
unfolding joined
joined-last zero f = append-nil (f 0)
joined-last (suc n) f = ap (λ (r : List ℕ). f 0 ++ r) (joined-last n (λ k. f (suc k))) ∙ sym (append_assoc (f 0) (joined n (λ k. f (suc k))) (f (suc n)))

-- a run from the front is what stands written there
pub sets-front : (out sheet : List ℕ) → length sheet ≤ length out → sets out 0 sheet ≡ written_to out sheet
unfolding written_to
sets-front out sheet l = sets-eq sheet out 0 (omega arith) ∙ ap (λ (k : ℕ). sheet ++ drop k out) (zero-add (length sheet))

-- from a place on: n joined lists of c bytes each; one more; and the line's end
module _ (l : List ℕ) (at n c : ℕ) (f : ℕ → List ℕ) (e : length (joined n f) ≡ c * n) (out : List ℕ) (h : out ≡ sets l at (joined n f)) where
  next : at + length (joined n f) ≡ at + c * n
  next = ap (λ (k : ℕ). at + k) e

  behind : (vs : List ℕ) → sets out (at + c * n) vs ≡ sets l at (joined n f ++ vs)
  behind vs = ap (λ (r : List ℕ). sets r (at + c * n) vs) h ∙ sets_then l at (at + c * n) (joined n f) vs next

  pub one_more : (after : List ℕ) → after ≡ sets out (at + c * n) (f n) → after ≡ sets l at (joined (n + 1) f)
  one_more after g =
      g
      ∙ behind (f n)
      ∙ ap (λ (vs : List ℕ). sets l at vs) (sym (joined-last n f) ∙ ap (λ (k : ℕ). joined k f) (sym (add-one n)))

  pub line-end : set out (at + c * n) 10 ≡ sets l at (joined n f ++ newline)
  unfolding newline
  line-end = behind newline
