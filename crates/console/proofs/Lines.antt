-- What a line says, way by way. Assumes nothing.
use Prim.Native.Nat.{ℕ, ◌≤◌, ◌<◌}
use mathlib.Core.Path.{◌≡◌, refl, sym, ap, ◌∙◌}
use mathlib.Core.Bool.{true, false, false≢true}
use mathlib.Core.List.{List}
use Rattle.std.specs.Prelude.{Option, None, Some, unwrap_or, is_some}
use lib.Dec.{eqb}
use lib.ListN.{length, get_or}
use borrow.Author.Tests.{eq-eqb, ne_eqb, le-leb, lt-leb}
use Rattle.digits.specs.Reading.{◌>>=◌, number_at}
use Rattle.console.specs.Orders.{starts, alone, amounts_at, opening, reporting, order_of}
use Rattle.console.specs.Steps.{letter_order}
use Rattle.console.specs.declared.Order.{Order}
use Rattle.console.specs.declared.Order.TheVariants.{Open, OpenAbove, Report, Unknown}
use Rattle.console.proofs.Amounts.{not-read}

-- ---- o and f

module _ (order : ℕ → ℕ → Order) (line : List ℕ) where
  pub no_items : number_at 2 line 1 ≡ None → None ≡ opening order line
  unfolding opening
  no_items e = simp e

  pub no-bidders : (m : ℕ) → number_at 2 line 1 ≡ Some m → number_at 2 line 3 ≡ None → None ≡ opening order line
  unfolding opening
  no-bidders m e f = simp (e, f)

  pub no-amounts : (m n : ℕ) → number_at 2 line 1 ≡ Some m → number_at 2 line 3 ≡ Some n → is_some (amounts_at line) ≡ false
      → None ≡ opening order line
  unfolding opening
  no-amounts m n e f g = simp (e, f, not-read (amounts_at line) g)

  pub an-opening : (m n : ℕ) → number_at 2 line 1 ≡ Some m → number_at 2 line 3 ≡ Some n → is_some (amounts_at line) ≡ true
      → Some (order m n) ≡ opening order line
  unfolding opening
  an-opening m n e f g = simp (e, f) (go (amounts_at line) g)
    where
      go : (o : Option (List ℕ)) → is_some o ≡ true → Some (order m n) ≡ o >>= λ xs. Some (order m n)
      go None h = absurd (false≢true h)
      go (Some xs) h = refl

module _ (line : List ℕ) where
  -- ---- r

  pub not-long : (length line ≡ 13 → ⊥) → None ≡ reporting line
  unfolding reporting
  not-long ne = simp (ne_eqb (length line) 13 ne)

  module _ (long : length line ≡ 13) where
    pub no-bidder : number_at 2 line 1 ≡ None → None ≡ reporting line
    unfolding reporting
    no-bidder e = simp (eq-eqb (length line) 13 long, e)

    pub no-null : (b : ℕ) → number_at 2 line 1 ≡ Some b → number_at 2 line 3 ≡ None → None ≡ reporting line
    unfolding reporting
    no-null b e f = simp (eq-eqb (length line) 13 long, e, f)

    pub no-set : (b x : ℕ) → number_at 2 line 1 ≡ Some b → number_at 2 line 3 ≡ Some x → number_at 8 line 5 ≡ None → None ≡ reporting line
    unfolding reporting
    no-set b x e f g = simp (eq-eqb (length line) 13 long, e, f, g)

    module _ (b x s : ℕ) (e : number_at 2 line 1 ≡ Some b) (f : number_at 2 line 3 ≡ Some x) (g : number_at 8 line 5 ≡ Some s) where
      pub other-null : 1 < x → None ≡ reporting line
      unfolding reporting
      other-null l = simp (eq-eqb (length line) 13 long, e, f, g, lt-leb x 1 l)

      pub a-report : x ≤ 1 → Some (Report b (eqb x 1) s) ≡ reporting line
      unfolding reporting
      a-report l = simp (eq-eqb (length line) 13 long, e, f, g, le-leb x 1 l)

  -- ---- the first byte

  module _ (b : ℕ) (at : b ≡ get_or line 0 0) where
    by-letter : (x : ℕ) → b ≡ x → starts x line ≡ true
    unfolding starts
    by-letter x e = eq-eqb (get_or line 0 0) x (sym at ∙ e)

    pub opens-it : b ≡ 111 → (o : Order) → o ≡ unwrap_or (opening Open line) Unknown → o ≡ order_of line
    unfolding order_of
    opens-it e o q = q ∙ simp (by-letter 111 e)

    not-starts : (x : ℕ) → (b ≡ x → ⊥) → starts x line ≡ false
    unfolding starts
    not-starts x ne = ne_eqb (get_or line 0 0) x (λ e. ne (at ∙ e))

    module _ (no : b ≡ 111 → ⊥) where
      pub opens-above-it : b ≡ 102 → (o : Order) → o ≡ unwrap_or (opening OpenAbove line) Unknown → o ≡ order_of line
      unfolding order_of
      opens-above-it e o q = q ∙ simp (not-starts 111 no, by-letter 102 e)

      module _ (nf : b ≡ 102 → ⊥) where
        pub reports-it : b ≡ 114 → (o : Order) → o ≡ unwrap_or (reporting line) Unknown → o ≡ order_of line
        unfolding order_of
        reports-it e o q = q ∙ simp (not-starts 111 no, not-starts 102 nf, by-letter 114 e)

        module _ (nr : b ≡ 114 → ⊥) where
          pub not-one : (length line ≡ 1 → ⊥) → Unknown ≡ order_of line
          unfolding order_of alone
          not-one ne = simp (not-starts 111 no, not-starts 102 nf, not-starts 114 nr, ne_eqb (length line) 1 ne)

          pub one-letter : length line ≡ 1 → (o : Order) → o ≡ letter_order b → o ≡ order_of line
          unfolding order_of alone
          one-letter e o q =
              q ∙ ap letter_order at
              ∙ simp (not-starts 111 no, not-starts 102 nf, not-starts 114 nr, eq-eqb (length line) 1 e) (unfold starts letter_order in refl)
