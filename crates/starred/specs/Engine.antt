-- The definitions that a growth, a question and alike are evaluated by: to unfold `engine` is to unfold them all.
use Rattle.laws.specs.Fourth.{fourth}
use Rattle.tree_laws.specs.Compressed.{is_apex}
use Rattle.tree_laws.specs.StoredFromCompressed.{path_row, higher, branch_at}
use Rattle.span.specs.Numbers.{capped}
use Rattle.span.specs.Power.{power}
use Rattle.span.specs.Rank.{rank_to, rank_of}
use Rattle.table.specs.Capacity.{fits, capacity_of}
use Rattle.layer.specs.Sound.{is_sound}
use Rattle.table.specs.State.{is_standing}
use Rattle.laws.specs.Tabulate.{tabulate}
use Rattle.tally.specs.Fit.{capacity_with}
use Rattle.tally.specs.Count.{has_room, with_most}
use Rattle.set_up.specs.Blank.{blank, parts_after, tally_after}
use Rattle.counts.specs.Count.{one_more}
use Rattle.renumber.specs.Place.{turn, arrival}
use Rattle.renumber.specs.SizeWalk.{size_entered, heavy_kept, size_left, offered_to, size_turn, size_walk}
use Rattle.renumber.specs.NumberWalk.{
  light_or_last,
  sibling_or_up,
  heavy_last,
  placed_row,
  started,
  row_numbered,
  is_on_path,
  upper_of,
  size_of,
  numbered_down,
  numbered_to,
  number_walk,
}
use Rattle.renumber.specs.Entries.{entries_from, above_of, with_entries}
use Rattle.renumber.specs.Renumber.{renumbered}
use Rattle.layer.specs.Checked.{is_row}
use Rattle.join.specs.Chain.{outgrown_at, top_from, raised_at, raised}
use Rattle.join.specs.CheckWalk.{is_readable, entered, left_row, check_turn, turned, check_walk}
use Rattle.join.specs.Copied.{are_links, copies_links}
use Rattle.join.specs.Attach.{first_of, first_after, next_after, parent_after, new_links, new_values, linked, attached}
use Rattle.join.specs.Seat.{upper_under, upper_for, old_head, head_of, is_first, is_seated, is_whole, seat_at, seat_of}
use Rattle.join.specs.Store.{joined_at}
use Rattle.join.specs.Lone.{lone_fields, lone_numbers, lone_entries}
use Rattle.growth_store.specs.Store.{given, marked, plan_stored}
use Rattle.growth_plan.specs.Level.{level_from}
use Rattle.growth_plan.specs.PlannedRow.{planned_row}
use Rattle.growth_plan.specs.Plan.{leaf_within, leaf_plan, root_over, root_within, root_plan}
use Rattle.growth.specs.Growth.{served, started as tree_started, grown_at, grown_by, add_leaf, add_root}
use Rattle.growth_store.specs.Start.{started_fields}
use Rattle.ancestry.specs.Reading.{covers}
use Rattle.ancestry.specs.CompressedStep.{arrive, climb, at_entry, past_entry, past_reach, past_span, side_from}
use Rattle.ancestry.specs.StoredAnswer.{is_on_row, forked, meeting, branch_of, join, between, stored_from}
use Rattle.query.specs.Sought.{sought_in}
use Rattle.query.specs.Asked.{asked}
use Rattle.query.specs.Node.{is_node}
use Rattle.query.specs.Line.{is_minus}
use Rattle.query.specs.PlainAnswer.{lower_x, lower_y, is_read, lowered, plain_from, plain_answer}
use Rattle.query.specs.Question.{is_served, served as answer_served, question}
use Rattle.alike.specs.PlainParent.{toward_root, plain_up}
use Rattle.alike.specs.Walk.{marked_alike, turn_at}
use Rattle.alike.specs.Alike.{walked, served as alike_served, alike}
use Rattle.sequence.specs.Run.{step}

unfoldable pub engine : Unit {0}
unfolding fourth
    is_apex path_row higher branch_at
    capped power rank_to rank_of
    fits capacity_of is_sound is_standing
    tabulate blank parts_after tally_after capacity_with has_room with_most
    one_more turn arrival size_entered heavy_kept size_left offered_to size_turn size_walk light_or_last sibling_or_up heavy_last placed_row started row_numbered
    is_on_path upper_of size_of numbered_down numbered_to number_walk entries_from above_of with_entries renumbered
    is_row level_from outgrown_at top_from raised_at raised is_readable entered left_row check_turn turned check_walk are_links copies_links first_of first_after next_after parent_after new_links
    new_values linked attached upper_under upper_for old_head head_of is_first is_seated is_whole seat_at seat_of joined_at planned_row leaf_within leaf_plan root_over root_within
    root_plan lone_fields lone_numbers lone_entries given marked plan_stored served started_fields tree_started grown_at grown_by add_leaf add_root
    sought_in covers arrive climb at_entry past_entry past_reach past_span side_from is_on_row forked meeting branch_of join between stored_from
    is_node is_minus lower_x lower_y is_read lowered plain_from plain_answer is_served answer_served asked question
    toward_root plain_up marked_alike turn_at walked alike_served alike
    step
engine = tt
