use Rattle.std.proofs.Common.{◌≡◌, ℕ, Result, Ok, Err, MatchResult, MatchOption, sym, ap, ◌∙◌, arith}
use Rattle.std.specs.Option.{is_some}
use Rattle.std.specs.Result.{result_err}
use Rattle.text.specs.Bytes.{part}
use Rattle.listing.specs.Lists.{bytes_at}
use Rattle.listing.proofs.Finding.{found_number, number_named, part_front}
use Rattle.listing.proofs.names.Listing.gap.Goals as goal

apart : (r : Result ℕ ℕ) (P : Type 0) (Q R : ℕ → Type 0) → MatchResult r Q R → ((i : ℕ) → Q i → P) → MatchOption (result_err r) P R
apart (Ok i) P Q R h f = f i h
apart (Err i) P Q R h f = h

pub returns : goal.returns
unfolding part
returns c =
    let l = c.args.self.now in
    let e : part l.text c.args.span.start c.args.span.end ≡ bytes_at l c.args.span =
    part_front _ _ _ _ c.requires.0 (omega (arith, l.long)) in
    rw c.err.ensures.value (apart c.search.result _ _ _ (rw e at c.search.ensures) (λ i h. sym (number_named _ _) ∙ ap is_some (found_number _ _ _ _ _ l.named _ i h)))
