use borrow.Author.Tests.{tests}
use Rattle.std.proofs.Common.{rules, arith}
use Rattle.text.proofs.ByteKinds.{plain_kind}
use Rattle.text.proofs.Readers.{plain_found, value_plain, fence_in}
use Rattle.text.proofs.source.Source.value_word.Goals as goal

pub plain_end-requires : goal.plain_end-requires
plain_end-requires c = (c.skip_blanks-start.ensures.1, omega arith, plain_kind _ _ (search (rules, tests)))

pub returns : goal.returns
returns c =
    let k = c.skip_blanks-start.ensures in
    let v = c.args.self.now.fenced in
    let w = c.in_ok-end.ensures in
    (plain_found _ _ _ _ v k.1 (plain_kind _ _ (search (rules, tests))) _ _ k.0.blanks w, value_plain _ _ _ _ (fence_in _ _ _ v k.1) (search (rules, tests)) w)
