-- Which locks are shared, by the numbers of their names: each part has a row of them, with none in the places that are left.
--   row_of names          == the row of a part with these lock names
--   codes_of s ns         == the same of the names ns, stretches of the file s
--   names_it code row     == the part with this row names the lock with this number
--   code_shared rows code == there is a lock, and at least two of the parts with these rows name it
--   marks_at rows k       == so for each lock of the part at the place k
-- Which locks are shared, by numbers alone, 0 for none, as the reader keeps the rows:
--   code_or0 name           == the number of a name; 0, which is the number of none, where the bytes are no name
--   code_of_number number   == the code that a number stands for, none for 0
--   number_row names        == the row of a part with these lock names
--   numbers_of s ns         == the same of the names ns, stretches of the file s
--   codes_over s ns row     == the row with their numbers in the first places, and every other place as it was
--   has_number code row     == the part with this row names the lock with this number
--   number_shared rows code == there is a lock, and at least two of the parts with these rows name it
--   marks_of rows row       == so for each lock of the part with this row
--   marks_by_number rows k  == so for each lock of the part at the place k
-- Assumes nothing.
use Rattle.std.specs.Prelude.{ℕ, Bool, not, ◌&&◌, cond, List, [], ◌++◌, map, leb, eqb, count_by, drop, get_or, Option, Some, None}
use Rattle.std.specs.List.{list_any}
use Rattle.std.specs.Option.{option_eq, is_some, unwrap_or}
use Rattle.least.specs.Lists.{pad}
use Rattle.refusal.specs.Limits.{lock_limit}
use Rattle.codes.specs.Code.Codes.{code_if}
use Rattle.plan_file.specs.declared.Names.{Names}
use Rattle.plan_file.specs.Code.Entries.{names_of}

unfoldable pub row_of : List (List ℕ) → List (Option ℕ)
row_of names = pad lock_limit None (map code_if names)

abbrev pub codes_of : List ℕ → Names → List (Option ℕ)
codes_of s ns = row_of (names_of s ns)

abbrev pub names_it : Option ℕ → List (Option ℕ) → Bool
names_it code row = list_any (λ c. option_eq eqb c code) row

abbrev pub code_shared : List (List (Option ℕ)) → Option ℕ → Bool
code_shared rows code = is_some code && leb 2 (count_by (names_it code) rows)

abbrev pub marks_at : List (List (Option ℕ)) → ℕ → List Bool
marks_at rows k = map (code_shared rows) (get_or rows k [])

abbrev pub code_or0 : List ℕ → ℕ
code_or0 name = unwrap_or (code_if name) 0

abbrev pub code_of_number : ℕ → Option ℕ
code_of_number number = cond (eqb number 0) None (Some number)

unfoldable pub number_row : List (List ℕ) → List ℕ
number_row names = pad lock_limit 0 (map code_or0 names)

abbrev pub numbers_of : List ℕ → Names → List ℕ
numbers_of s ns = number_row (names_of s ns)

abbrev pub codes_over : List ℕ → Names → List ℕ → List ℕ
codes_over s ns row = map code_or0 (names_of s ns) ++ drop ns.count row

abbrev pub has_number : ℕ → List ℕ → Bool
has_number code row = list_any (λ c. eqb c code) row

abbrev pub number_shared : List (List ℕ) → ℕ → Bool
number_shared rows code = not (eqb code 0) && leb 2 (count_by (has_number code) rows)

abbrev pub marks_of : List (List ℕ) → List ℕ → List Bool
marks_of rows row = map (number_shared rows) row

abbrev pub marks_by_number : List (List ℕ) → ℕ → List Bool
marks_by_number rows k = marks_of rows (get_or rows k [])
