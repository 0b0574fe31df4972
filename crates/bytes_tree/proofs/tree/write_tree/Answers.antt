-- `write_tree`: each column at its place, all of the bytes.
use Rattle.std.specs.Prelude.{All, List, ℕ, ◌^◌, ◌<◌, pos}
use Rattle.std.proofs.Common.{arith, SFits}
use Rattle.std.specs.Int.{w32}
use Rattle.std.proofs.lemmas.List.Elements.{All-get_or}
use Rattle.table.specs.Lent.{parts_in}
use Rattle.bytes_tree.specs.Tree.{Under}
use Rattle.bytes_tree.specs.ColumnLaws.{joined_column, joined_levels}
use Rattle.bytes_tree.specs.TreeLaws.{tree_stored}
use Rattle.bytes_tree.proofs.tree.write_tree.Goals as goal

under : (n : ℕ) (l : List ℕ) → All (λ x. x < n) l → Under n l
under n l h i k = All-get_or (λ x. x < n) l i 0 k h

pub returns : goal.returns
returns c =
    let a = c.args in
    let t = parts_in a.parts.now in
    record {
      bytes =
          rw (
            c.write-5.ensures.bytes,
            c.write-4.ensures.bytes,
            c.write-3.ensures.bytes,
            c.write-2.ensures.bytes,
            c.write.ensures.bytes,
            c.put16.ensures,
            joined_column 2 t.fields,
            joined_column 8 t.numbers,
            joined_levels t.levels,
            joined_column 2 t.ancestors,
            joined_column 2 a.tally.now,
          )
          (tree_stored a.b.now a.state t a.tally.now c.requires.b_len c.requires.fits c.requires.tally_len);
      range = record {
        count = omega (arith, c.well_formed);
        fields = under (2 ^ 16) t.fields c.write.ensures.range;
        numbers = under (2 ^ 64) t.numbers c.write-2.ensures.range;
        levels = λ i k. All-get_or (SFits w32) t.levels i (pos 0) k c.write-3.ensures.range;
        ancestors = under (2 ^ 16) t.ancestors c.write-4.ensures.range;
        tally = under (2 ^ 16) a.tally.now c.write-5.ensures.range;
      };
    }
