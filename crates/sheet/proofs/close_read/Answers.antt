-- `sheet::close_read` meets its contract. Assumes nothing.
use Prim.Native.Nat.{ℕ, ◌≤◌, ◌<◌}
use mathlib.Core.Path.{◌≡◌, sym, ap, ◌∙◌, subst}
use native.Mathlib.Omega.{arith}
use lib.ListN.{length}
use mathlib.Core.Bool.{true, false}
use Rattle.rule.specs.Refusal.{bad_items, bad_bidders}
use Rattle.lines.specs.Lines.{sealed_length, bytes_of}
use Rattle.lines.proofs.Written.{few-make, bytes-by, written_is}
use Rattle.auction.specs.declared.Closing.{Closing}
use Rattle.sheet.proofs.Ends.{no_room, by-sealed, not_written, is-written}
use Rattle.sheet.proofs.Longer.{most-items, most-bidders}
use Rattle.sheet.proofs.close_read.Goals as goal

-- counts in order make a closing sheet
long : (m n : ℕ) → bad_items m ≡ false → bad_bidders n ≡ false → bytes_of m n (sealed_length m n) ≡ sealed_length m n
long m n e f = bytes-by m n (sealed_length m n) true (few-make m n (most-items m e) (most-bidders n f))

pub returns-then-out-long : goal.returns-then-out-long
returns-then-out-long c =
    let a = c.args in
    let p = c.requires in
    let less : length a.out.now < sealed_length a.items a.bidders =
    subst (λ (k : ℕ). length a.out.now < k) (c.sealed_length-long.ensures ∙ long a.items a.bidders p.0 p.1) c.if-out-long.true in
    not_written a.items a.bidders a.start.now a.bids.now a.out.now 3 (omega arith) (no_room a.items a.bidders a.start.now a.bids.now a.out.now less)

pub returns-then-c-gt0 : goal.returns-then-c-gt0
returns-then-c-gt0 c =
    let a = c.args in
    let p = c.requires in
    let room : sealed_length a.items a.bidders ≤ length a.out.now =
    subst (λ (k : ℕ). k ≤ length a.out.now) (c.sealed_length-long.ensures ∙ long a.items a.bidders p.0 p.1) c.if-out-long.false in
    not_written a.items a.bidders a.start.now a.bids.now a.out.now c.sealed-c.result.refusal c.if-c-gt0.true
    (by-sealed a.items a.bidders a.start.now a.bids.now a.out.now p.0 p.1 p.2 p.3 room ∙ sym (ap (λ (x : Closing). x.refusal) c.sealed-c.ensures.outcome))

pub returns : goal.returns
returns c =
    let a = c.args in
    let p = c.requires in
    let room : sealed_length a.items a.bidders ≤ length a.out.now =
    subst (λ (k : ℕ). k ≤ length a.out.now) (c.sealed_length-long.ensures ∙ long a.items a.bidders p.0 p.1) c.if-out-long.false in
    let q = c.sealed-c.result in
    let none-given : q.refusal ≡ 0 = omega arith in
    is-written a.items a.bidders a.start.now a.bids.now a.out.now q c.sealed_length-long.result _
    (by-sealed a.items a.bidders a.start.now a.bids.now a.out.now p.0 p.1 p.2 p.3 room ∙ sym (ap (λ (x : Closing). x.refusal) c.sealed-c.ensures.outcome) ∙ none-given)
    c.sealed-c.ensures.outcome
    (c.sealed_length-long.ensures ∙ long a.items a.bidders p.0 p.1)
    (written_is a.items a.bidders (sealed_length a.items a.bidders) (length a.out.now) (most-items a.items p.0) (most-bidders a.bidders p.1) room)
    c.write_sealed.ensures.1
