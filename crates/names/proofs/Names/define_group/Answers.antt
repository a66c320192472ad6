use Rattle.std.proofs.Common.{refl}
use Rattle.names.proofs.Defining.{defines_twice, defines_more}
use Rattle.names.proofs.Names.define_group.Goals as goal

pub returns-then-has_name : goal.returns-then-has_name
returns-then-has_name c = defines_twice _ c.requires.1 _ _ _ c.has_name.ensures c.if-has_name.true

pub returns : goal.returns
returns c = defines_more _ c.requires.1 _ _ _ c.has_name.ensures c.if-has_name.false _ c.add_name.ensures c.if-self-ge64.false refl (refl, refl)
