use Prim.Native.Nat.{ℕ}
use lib.ListN.{replicate, length-replicate}
use Rattle.xkbresolve.proofs.Runs.{run_long, run_refused, run_accepted}
use Rattle.xkbresolve.proofs.run.Goals as goal

pub returns-then-long : goal.returns-then-long
returns-then-long c = run_long _ _ c.if-long.true (rw c.requires at c.put_refusal.ensures)

pub returns-in-Ok : goal.returns-in-Ok
returns-in-Ok c =
    let a = c.split_line.ensures in
    let b = c.split_line-2.ensures in
    let d = c.split_line-3.ensures in
    let e = c.split_line-4.ensures in
    run_accepted _ _ _ _ _ _ _ _ _ c.if-long.false a.0 a.1 b.0 b.1 d.0 d.1 e.0 e.1 (replicate 65536 0) (length-replicate {A = ℕ} 65536 0) _ _ _ c.in-Ok.ensures (rw c.requires at c.put_components.ensures)

pub returns-in-Err : goal.returns-in-Err
returns-in-Err c =
    let a = c.split_line.ensures in
    let b = c.split_line-2.ensures in
    let d = c.split_line-3.ensures in
    let e = c.split_line-4.ensures in
    run_refused _ _ _ _ _ _ _ _ _ c.if-long.false a.0 a.1 b.0 b.1 d.0 d.1 e.0 e.1 (replicate 65536 0) (length-replicate {A = ℕ} 65536 0) _ _ c.in-Err.ensures.result
    (rw c.requires at c.put_refusal-in-Err.ensures)
