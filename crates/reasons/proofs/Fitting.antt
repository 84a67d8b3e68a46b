-- Text that is written where it fits. Assumes nothing.
use Prim.Native.Nat.{ℕ, ◌≤◌, ◌<◌}
use mathlib.Core.Path.{◌≡◌, sym, ap, ◌∙◌}
use mathlib.Core.Bool.{Bool, cond}
use mathlib.Core.List.{List, []}
use lib.ListN.{length}
use lib.Seq.{sets}
use borrow.Author.Tests.{lt-ltb, le-ltb}
use Rattle.lines.specs.Lines.{written_to}
use Rattle.lines.proofs.Stores.{sets-front}
use Rattle.reasons.specs.Sheets.{fitting}

pub fits_whole : (room : ℕ) (text : List ℕ) → length text ≤ room → fitting room text ≡ text
unfolding fitting
fits_whole room text l = ap (λ (b : Bool). cond b [] text) (le-ltb room (length text) l)

module _ (out text : List ℕ) where
  -- k bytes were written, and the lent ones are left so
  abbrev pub Written : (k : ℕ) (last : List ℕ) → Type 0
  Written k last = (k ≡ length (fitting (length out) text)) × (last ≡ written_to out (fitting (length out) text))

  pub not_written : length out < length text → Written 0 out
  unfolding fitting written_to
  not_written l =
      let none : [] ≡ fitting (length out) text = sym (ap (λ (b : Bool). cond b [] text) (lt-ltb (length out) (length text) l)) in
      (ap length none, ap (written_to out) none)

  pub is-written : (k : ℕ) (last : List ℕ) → k ≡ length text → length text ≤ length out → last ≡ sets out 0 text → Written k last
  is-written k last e l h =
      let all : text ≡ fitting (length out) text = sym (fits_whole (length out) text l) in
      (e ∙ ap length all, h ∙ sets-front out text l ∙ ap (written_to out) all)
