use Rattle.std.proofs.Common.{◌<◌, refl, arith}
use Rattle.listing.specs.Names.{most_names}
use Rattle.names.proofs.Searching.{row_star, row_sieved, row_found, row_none, sieve_low, number_few}
use Rattle.names.proofs.table.Table.row.Goals as goal

pub returns-then-is_star : goal.returns-then-is_star
returns-then-is_star c = row_star _ _ _ c.is_star.ensures c.if-is_star.true

pub bounds-self-sieve_of : goal.bounds-self-sieve_of
bounds-self-sieve_of c = rw c.sieve_of.ensures (sieve_low _)

pub returns-then-not-self-sieve_of : goal.returns-then-not-self-sieve_of
returns-then-not-self-sieve_of c = row_sieved _ _ _ c.sieve_of.ensures c.if-not-self-sieve_of.true

pub offset_bounds-self-g : goal.offset_bounds-self-g
offset_bounds-self-g c = let l : c.in-Some.g < most_names = number_few c.args.self.now.list _ _ _ c.in-Some.ensures refl in omega arith

pub bounds-self-g : goal.bounds-self-g
bounds-self-g c = number_few c.args.self.now.list _ _ _ c.in-Some.ensures refl

pub returns-in-Some : goal.returns-in-Some
returns-in-Some c = row_found _ _ _ c.in-Some.ensures _ refl

pub returns-in-None : goal.returns-in-None
returns-in-None c = row_none _ _ _ c.in-None.ensures refl
