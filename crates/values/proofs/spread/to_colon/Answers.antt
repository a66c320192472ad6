use native.Mathlib.Omega.{arith}
use Rattle.values.proofs.Keeping.{plain_start, plain_more, colon_at, colon_none}
use Rattle.values.proofs.spread.to_colon.Goals as goal

pub loop-i-init : goal.loop-i-init
loop-i-init c = plain_start _ _ c.requires

pub returns-then-t-i-eq58 : goal.returns-then-t-i-eq58
returns-then-t-i-eq58 c =
    colon_at _ _ _ c.loop-i.invariant (omega arith) c.if-t-i-eq58.true

pub returns-then-t-i-eq58-2 : goal.returns-then-t-i-eq58-2
returns-then-t-i-eq58-2 c =
    colon_at _ _ _ (plain_more _ _ _ _ (omega arith) (omega arith) c.loop-i.invariant c.if-t-i-eq58.false) (omega arith) c.if-t-i-eq58-2.true

pub returns-then-t-i-eq58-3 : goal.returns-then-t-i-eq58-3
returns-then-t-i-eq58-3 c =
    colon_at _ _ _ (plain_more _ _ _ _ (omega arith) (omega arith) (plain_more _ _ _ _ (omega arith) (omega arith) c.loop-i.invariant c.if-t-i-eq58.false) c.if-t-i-eq58-2.false) (omega arith) c.if-t-i-eq58-3.true

pub returns-then-t-i-eq58-4 : goal.returns-then-t-i-eq58-4
returns-then-t-i-eq58-4 c =
    colon_at _ _ _ (plain_more _ _ _ _ (omega arith) (omega arith) (plain_more _ _ _ _ (omega arith) (omega arith) (plain_more _ _ _ _ (omega arith) (omega arith) c.loop-i.invariant c.if-t-i-eq58.false) c.if-t-i-eq58-2.false) c.if-t-i-eq58-3.false) (omega arith) c.if-t-i-eq58-4.true

pub loop-i-preserved : goal.loop-i-preserved
loop-i-preserved c =
    plain_more _ _ _ _ (omega arith) (omega arith) (plain_more _ _ _ _ (omega arith) (omega arith) (plain_more _ _ _ _ (omega arith) (omega arith) (plain_more _ _ _ _ (omega arith) (omega arith) c.loop-i.invariant c.if-t-i-eq58.false) c.if-t-i-eq58-2.false) c.if-t-i-eq58-3.false) c.if-t-i-eq58-4.false

pub returns : goal.returns
returns c = colon_none _ _ _ c.loop-i.invariant c.loop-i-test.false
