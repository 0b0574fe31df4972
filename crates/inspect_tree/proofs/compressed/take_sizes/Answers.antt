-- `take_sizes`: what is left in each cell, with the sizes taken from it, is the size.
use mathlib.Core.Path.{refl}
use Rattle.inspect_tree.specs.Columns.{sizes, uppers}
use Rattle.inspect_tree.specs.Sizes.{taking_start, taking_step, taking_stop, taking_end}
use native.Mathlib.Omega.{arith}
use Rattle.std.proofs.Common.{rules}
use Rattle.inspect_tree.proofs.compressed.take_sizes.Goals as goal

pub loop-x-init : goal.loop-x-init
loop-x-init c = let f = c.args.fields.now in
    (refl, taking_start (uppers f) (sizes f) c.args.n c.requires.kept)

pub returns-then-not-take_one : goal.returns-then-not-take_one
returns-then-not-take_one c = let f = c.args.fields.now in
    let n = c.args.n in
    taking_stop (uppers f) (sizes f) n c.loop-x.invariant.1 (omega arith) (omega arith) (omega arith) c.requires.in_range c.field.ensures c.field-in-loop-x.ensures c.take_one.ensures c.if-not-take_one.true-raw

pub loop-x-preserved : goal.loop-x-preserved
loop-x-preserved c = let f = c.args.fields.now in
    let n = c.args.n in
    (search rules, taking_step (uppers f) (sizes f) n c.loop-x.invariant.1 (omega arith) (omega arith) (omega arith) c.requires.in_range c.field.ensures c.field-in-loop-x.ensures c.take_one.ensures c.if-not-take_one.false-raw)

pub returns : goal.returns
returns c = let f = c.args.fields.now in
    taking_end (uppers f) (sizes f) c.args.n (omega arith) (omega arith) c.loop-x.invariant.1
