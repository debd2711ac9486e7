-- The records of a board file, front to back: checks 1 to 5.
use Rattle.std.specs.Prelude.{ℕ, zero, suc, ◌+◌, ◌*◌, Bool, ◌&&◌, List, length, take, drop, ◌==◌, nat_le, slice_index}
use Rattle.rules.specs.declared.refusal.Refusal.TheVariants.{Long, Cut, Kind, Shape, Trail}
use Rattle.rules.specs.Refusals.{Verdict, accepted, ◌then◌, asked}

-- the two-byte number at i
abbrev pub number_at : List ℕ → ℕ → ℕ
number_at f i = slice_index f i + 256 * slice_index f (i + 1)

-- where the record at `at` ends
abbrev pub end_of : List ℕ → ℕ → ℕ
end_of f at = at + 4 + number_at f at

abbrev pub body : List ℕ → ℕ → List ℕ
body f at = take (number_at f at) (drop (at + 4) f)

-- the record at `at` is whole and of the kind that is due
abbrev pub framed : List ℕ → ℕ → ℕ → Verdict
framed f at due = asked (nat_le (end_of f at) (length f)) (Cut at) then asked (number_at f (at + 2) == due) (Kind at)

-- Bodies

abbrev pub board_shape : List ℕ → Bool
board_shape b = length b == 2 && (nat_le 1 (number_at b 0) && nat_le (number_at b 0) 64)

abbrev pub inputs_in : List ℕ → ℕ
inputs_in b = slice_index b 0

abbrev pub outputs_in : List ℕ → ℕ
outputs_in b = slice_index b 1

abbrev pub wires_in : List ℕ → ℕ
wires_in b = slice_index b 2

abbrev pub occurrences_in : List ℕ → ℕ
occurrences_in b = slice_index b 3

abbrev pub states_in : List ℕ → ℕ
states_in b = slice_index b 4

abbrev pub module_shape : List ℕ → Bool
module_shape b =
    nat_le 5 (length b)
    && (nat_le (inputs_in b) 16 && (nat_le (outputs_in b) 16 && (nat_le (inputs_in b) (wires_in b) && (nat_le (wires_in b) 128 && (nat_le (occurrences_in b) 64 && (nat_le (states_in b) (occurrences_in b) && length b == 5 + outputs_in b + states_in b))))))

abbrev pub occurrence_shape : List ℕ → Bool
occurrence_shape b = nat_le 4 (length b) && (nat_le (slice_index b 2) 16 && (nat_le (slice_index b 3) 16 && length b == 4 + slice_index b 2 + slice_index b 3))

-- Many records

-- where n records end of which the first begins at `at`
unfoldable pub after : List ℕ → ℕ → ℕ → ℕ
after f at zero = at
after f at (suc n) = after f (end_of f at) n

abbrev pub read : List ℕ → ℕ → ℕ → (List ℕ → Bool) → Verdict
read f at due shape = framed f at due then asked (shape (body f at)) (Shape at)

-- the n occurrence records from `at` on
unfoldable pub occurrences_read : List ℕ → ℕ → ℕ → Verdict
occurrences_read f at zero = accepted
occurrences_read f at (suc n) = read f at 3 occurrence_shape then occurrences_read f (end_of f at) n

-- how many occurrences the module at `at` has, and where the last of them ends
abbrev pub uses : List ℕ → ℕ → ℕ
uses f at = occurrences_in (body f at)

abbrev pub module_end : List ℕ → ℕ → ℕ
module_end f at = after f (end_of f at) (uses f at)

abbrev pub module_read : List ℕ → ℕ → Verdict
module_read f at = read f at 2 module_shape then occurrences_read f (end_of f at) (uses f at)

-- the n modules from `at` on, and nothing more
unfoldable pub modules_read : List ℕ → ℕ → ℕ → Verdict
modules_read f at zero = asked (at == length f) (Trail at)
modules_read f at (suc n) = module_read f at then modules_read f (module_end f at) n

abbrev pub module_count : List ℕ → ℕ
module_count f = number_at (body f 0) 0

-- checks 1 to 5
abbrev pub records_read : List ℕ → Verdict
records_read f = asked (nat_le (length f) 32768) Long then (read f 0 1 board_shape then modules_read f (end_of f 0) (module_count f))

-- where module k begins, of the modules from `at` on
unfoldable pub module_at : List ℕ → ℕ → ℕ → ℕ
module_at f at zero = at
module_at f at (suc k) = module_at f (module_end f at) k

-- where module k of the file begins
abbrev pub module_place : List ℕ → ℕ → ℕ
module_place f k = module_at f (end_of f 0) k
