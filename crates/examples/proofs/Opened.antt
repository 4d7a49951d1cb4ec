-- What the examples compute with: to unfold `opened` is to unfold every definition of paper 01 and of the chart.
-- Assumes nothing.
use mathlib.Core.List.{zip_with}
use Rattle.least.specs.Round.{ceil_div}
use Rattle.least.specs.Search.{least_from, any_from, number_or0}
use Rattle.least.specs.Lists.{sum, greatest, smallest, count_from, range, is_empty, nth_or, every, some, those, joined, numbers_from, first_from, last_or, on_last, pad, every_behind, behind, zip3}
use Rattle.least.specs.Fraction.{lesser, greater, least_over, greatest_of}
use Rattle.refusal.specs.Questions.{first_no, outcome_of, when_answered, when_done}
use Rattle.text.specs.Bytes.{bytes, same, among, mention, distinct_after, into_line, lines_of, into_field, fields_of, line_of}
use Rattle.text.specs.Decimal.{is_digit, value_after, digits_within, digits_of}
use Rattle.supply.specs.Supply.{round_of, supply_at, supply_of}
use Rattle.task_set.specs.Tasks.{held_for, demand_in, lowest_ceiling, greatest_held, smallest_deadline}
use Rattle.task_set.specs.Partition.{is_shared}
use Rattle.task_set.specs.Blocking.{blocked_by, blocking_of, need_of}
use Rattle.load.specs.Load.{demand_of, load_at, row_passes, passes_system, ratio, bound_of, bounds_of, load_of, load_row}
use Rattle.load.specs.Weigh.{row_in_range, weigh_questions, weighed, weigh_of}
use Rattle.scan.specs.Line.{is_allowed, line_is_good}
use Rattle.fields.specs.Fields.{is_name_byte, is_name, leading_zero, is_number}
use Rattle.holding.specs.Holding.{held, holding_of, highest_ceiling, in_range, exists, permitted, holding_time_of}
use Rattle.budget.specs.Budget.{task_passes, passes, least_budget}
use Rattle.layout.specs.Layout.{holder_of, served_one, after_tick, renewed, due_at, chart, in_cycle}
use Rattle.selection.specs.Selection.{choices, lighter, least_loaded}
use Rattle.selection.specs.Questions.{choice_questions}
use Rattle.records.specs.Records.{record_of}
use Rattle.candidates.specs.Candidates.{settings_to, candidate_of, candidates_in, is_kept, insert_by_x, in_falling_x, kept_among, kept_list, kept_answer, shown_ceiling}
use Rattle.plan_file.specs.Above.{lock_mentions, lock_names, parts_after}
use Rattle.plan_file.specs.Reading.{is_part, is_end, allowed_here, part_questions, task_questions, lock_questions, record_questions, questions_at, read_lines, read_from}
use Rattle.plan_file.specs.Numbers.{held_under, task_in, tasks_in, is_shared_in, numbered}
use Rattle.listing.specs.Listing.{ceilings_under, share_under, ceiling_line, share_line, share_lines, load_line, load_share, listing_of, refused_line}
use Rattle.answers.specs.Parts.{kept_rows}
use Rattle.answers.specs.Plan.{chosen_rows, chosen_plan, plan_file, plan_text, in_cycle_plan, cycle_plan}
use Rattle.answers.specs.Answers.{in_room, plan_of, chart_of, candidates_of, name_of, supply_answer, planned, buffer_after, candidate_list, name_bytes, supplied}
use Rattle.console.specs.Printed.{printed_text, printed_of}
use Rattle.examples.specs.Files.{file_a, listing_a, card_at, listing_c, listing_d, file_f_with, file_f, file_f_one_named, file_f_alone, file_private, file_blocked, listing_private, one_part, listing_i, every_ticks, listing_l, refusal_line, two_parts, file_top, listing_top, file_second, listing_second}
use Rattle.examples.specs.Table.{parts_in, is_on, begins_with, is_refused_with}

unfoldable pub opened : Unit {0}
unfolding zip_with ceil_div least_from any_from number_or0 sum greatest smallest count_from range is_empty nth_or every some those joined numbers_from first_from last_or on_last pad every_behind behind zip3 lesser greater least_over greatest_of bytes same among mention distinct_after into_line lines_of into_field fields_of line_of is_digit value_after digits_within digits_of first_no outcome_of when_answered when_done round_of supply_at supply_of held_for demand_in lowest_ceiling greatest_held smallest_deadline is_shared blocked_by blocking_of need_of held holding_of highest_ceiling in_range exists permitted holding_time_of task_passes passes least_budget settings_to candidate_of candidates_in is_kept insert_by_x in_falling_x kept_among kept_list kept_answer shown_ceiling demand_of load_at row_passes passes_system ratio bound_of bounds_of load_of load_row row_in_range weigh_questions weighed weigh_of holder_of served_one after_tick renewed due_at chart in_cycle choices lighter least_loaded choice_questions is_allowed line_is_good is_name_byte is_name leading_zero is_number record_of lock_mentions lock_names parts_after is_part is_end allowed_here part_questions task_questions lock_questions record_questions questions_at read_lines read_from held_under task_in tasks_in is_shared_in numbered ceilings_under share_under ceiling_line share_line share_lines load_line load_share listing_of refused_line kept_rows chosen_rows chosen_plan plan_file plan_text in_cycle_plan cycle_plan in_room plan_of chart_of candidates_of name_of supply_answer planned buffer_after candidate_list name_bytes supplied printed_text printed_of file_a listing_a card_at listing_c listing_d file_f_with file_f file_f_one_named file_f_alone file_private file_blocked listing_private one_part listing_i every_ticks listing_l refusal_line two_parts file_top listing_top file_second listing_second parts_in is_on begins_with is_refused_with
opened = tt
