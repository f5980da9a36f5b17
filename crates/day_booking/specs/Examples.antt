-- Texts, and what is printed of them.
use Rattle.std.specs.Prelude.{◌≡◌, refl, []}
use Rattle.amount.specs.Sums.{all_to}
use Rattle.types.specs.Bytes.{bytes}
use Rattle.types.specs.Runs.{until_refused}
use Rattle.holding.specs.Holding.{is_position, is_fill, average_after, position_after}
use Rattle.holding.specs.Rows.{are_positions}
use Rattle.position.specs.Ledger.{is_ledger, filled, settled, booked}
use Rattle.day.specs.Day.{day_booked}
use Rattle.numerals.specs.Numerals.{digits_on}
use Rattle.day_lines.specs.Words.{spoken, parts, not_empty}
use Rattle.day_lines.specs.Lines.{said_by}
use Rattle.decimals.specs.Decimals.{last_digits, signed_decimal}
use Rattle.day_printing.specs.Booked.{value_text, line_text, carried_text, values_text, place_text, refusal_text, refused_text, position_text, held_text, positions_text, ledger_text, day_text}
use Rattle.day_texts.specs.Texts.{lines_of, read_on}
use Rattle.day_booking.specs.Days.{day_printed, text_printed}

-- the worked day
worked :
    text_printed (bytes "cash 10000\n0 bid 3 100 2\n0 bid 2 101 0\n0 ask 4 110 1\n0 ask 3 90 0\n")
    ≡ bytes "taken 4\ncash 10205\ncommission 3\n0 -2 90 27\n"
unfolding lines_of read_on spoken parts not_empty digits_on said_by day_printed day_booked until_refused booked settled filled is_ledger are_positions is_fill is_position position_after average_after all_to day_text line_text refused_text refusal_text place_text values_text carried_text ledger_text positions_text held_text position_text value_text signed_decimal last_digits
worked = refl

-- the second fill costs more than there is, so the third is not booked; its line counts the remark
short :
    text_printed (bytes "cash 100\n0 bid 2 1 0\n# a remark\n1 bid 1 101 0\n0 ask 2 5 0")
    ≡ bytes "taken 1\nrefused 8 at line 4 101 98\ncash 98\ncommission 0\n0 2 1 0\n"
unfolding lines_of read_on spoken parts not_empty digits_on said_by day_printed day_booked until_refused booked settled filled is_ledger are_positions is_fill is_position position_after average_after all_to day_text line_text refused_text refusal_text place_text values_text carried_text ledger_text positions_text held_text position_text value_text signed_decimal last_digits
short = refl

-- an opening cash outside its limit, alone; a line that is none of a day: nothing, though a fill stands before it; no cash: nothing
not-booked :
    (text_printed (bytes "cash 4000000000000000001\n0 bid 2 1 0\n") ≡ bytes "refused 2 at line 1\n")
    × (text_printed (bytes "cash 100\n0 bid 2 1 0\n0 bid 2 1\n") ≡ [])
    × (text_printed (bytes "# no cash\n") ≡ [])
unfolding lines_of read_on spoken parts not_empty digits_on said_by day_printed day_booked until_refused booked settled filled is_ledger are_positions is_fill is_position position_after average_after all_to day_text line_text refused_text refusal_text place_text values_text carried_text ledger_text positions_text held_text position_text value_text signed_decimal last_digits
not-booked = (refl, refl, refl)
