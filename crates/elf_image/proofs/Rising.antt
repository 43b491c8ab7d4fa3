-- The segments of a file whose program headers pass their tests are in rising order, each with its limits.
use Rattle.std.proofs.Common.{◌≡◌, ℕ, zero, suc, ◌+◌, ◌%◌, ◌≤◌, ◌<◌, ◌^◌, Bool, true, false, ◌||◌, ◌==◌, not, nat_le, nat_lt, cond, List, [], ◌∷◌, length, drop, map, find, Option, Some, None, refl, subst, arith, length-take}
use Rattle.std.specs.List.{range_with_len, list_any, Any}
use Rattle.std.proofs.lemmas.Bool.Decides.{nat_tests}
use Rattle.std.proofs.lemmas.List.FromFn.{length-map-range_with_len}
use Rattle.x64_table.specs.declared.image.Segment.{Segment}
use Rattle.elf_image.specs.declared.header.ProgramHeader.{ProgramHeader}
use Rattle.elf_image.specs.Fields.{header_at, half_at, xword_at}
use Rattle.elf_image.specs.Load.{has_ident, has_machine, is_kind, end_of, end_before, is_good_header, is_good, segment_by, segment_at, can_run, header_count, refused_segment, image_at}
use Rattle.elf_image.specs.Loadable.{IsSegment, AreRising, CanRun, IsLoadable}
use Rattle.elf_image.proofs.Reading.{and_left, and_right, le_test, flags_tested, room_tested, behind_tested, header_tested, end_before-next}

-- what the tests of one program header say of its segment
segment_tested : (bytes : List ℕ) (end : ℕ) (h : ProgramHeader) → is_good_header (length bytes) end h ≡ true → IsSegment (segment_by bytes h)
segment_tested bytes end h e =
    let flags = flags_tested (length bytes) end h e in
    let room = room_tested (length bytes) end h e in
    let behind = behind_tested (length bytes) end h e in
    let filled = le_test h.file_size h.memory_size (and_left (nat_le h.file_size h.memory_size) _ room) in
    record {
      filled = omega (arith, filled, length-take h.file_size (drop h.offset bytes));
      size = le_test h.memory_size (2 ^ 30) (and_right (nat_le h.file_size h.memory_size) _ room);
      low_flag = le_test 4 h.flags (and_left (nat_le 4 h.flags) _ flags);
      high_flag = le_test h.flags 6 (and_right (nat_le 4 h.flags) _ flags);
      low = le_test (end_of h) (2 ^ 47) (and_left (nat_le (end_of h) (2 ^ 47)) _ behind);
    }

first_good : (b : Bool) (n : ℕ) (rest : Option ℕ) → cond (not b) (Some n) rest ≡ None → (b ≡ true) × (rest ≡ None)
first_good true n rest e = (refl, e)
first_good false n rest e = absurd (cc)

pub AreRising-read : (bytes : List ℕ) (n m : ℕ) → find (λ k. not (is_good bytes k)) (range_with_len n m) ≡ None → AreRising (end_before bytes n) (map (segment_at bytes) (range_with_len n m))
AreRising-read bytes n zero e = tt
AreRising-read bytes n (suc m) e =
    let first = first_good (is_good bytes n) n (find (λ k. not (is_good bytes k)) (range_with_len (n + 1) m)) e in
    let h = header_at bytes n in
    let tested = header_tested bytes n first.0 in
    let behind = behind_tested (length bytes) (end_before bytes n) h tested in (
      segment_tested bytes (end_before bytes n) h tested,
      le_test (end_before bytes n) h.address (and_right (nat_le (end_of h) (2 ^ 47)) _ behind),
      subst (λ (end : ℕ). AreRising end (map (segment_at bytes) (range_with_len (n + 1) m))) (end_before-next bytes n) (AreRising-read bytes (n + 1) m first.1),
    )

-- a segment that can be run has the flags 5
CanRun-tested : (at : ℕ) (s : Segment) → IsSegment s → can_run at s ≡ true → CanRun at s
CanRun-tested at s limits e =
    let odd : s.flags % 2 ≡ 1 = eq_test (s.flags % 2) 1 (and_left (s.flags % 2 == 1) _ e) in
    let inside = and_right (s.flags % 2 == 1) _ e in
    record {
      executable = omega (arith, odd, limits.low_flag, limits.high_flag);
      from = le_test s.at at (and_left (nat_le s.at at) _ inside);
      below = lt_test at (s.at + s.size) (and_right (nat_le s.at at) _ inside);
    }
  where
    eq_test : (a b : ℕ) → (a == b) ≡ true → a ≡ b
    eq_test a b h = grind (arith, nat_tests)

    lt_test : (a b : ℕ) → nat_lt a b ≡ true → a < b
    lt_test a b h = grind (arith, nat_tests)

-- an executable segment with this address is the first one, or among the others
runs_first : (at end : ℕ) (s : Segment) (rest : List Segment) (b : Bool) → IsSegment s → can_run at s ≡ b → (b || list_any (can_run at) rest) ≡ true → (list_any (can_run at) rest ≡ true → Any (CanRun at) rest) → Any (CanRun at) (s ∷ rest)
runs_first at end s rest true limits is e later = (0, s, omega arith, refl, CanRun-tested at s limits is)
runs_first at end s rest false limits is e later = let found = later e in (suc found.0, found.1, omega (arith, found.2), found.3, found.4)

one_runs : (at end : ℕ) (segments : List Segment) → AreRising end segments → list_any (can_run at) segments ≡ true → Any (CanRun at) segments
one_runs at end [] rising e = absurd (cc)
one_runs at end (s ∷ rest) rising e = runs_first at end s rest (can_run at s) rising.0 refl e (one_runs at (s.at + s.size) rest rising.2)

-- an image whose program headers and entry pass their tests
pub IsLoadable-read : (bytes : List ℕ) → header_count bytes ≤ 8 → refused_segment bytes ≡ None → list_any (can_run (image_at bytes).entry) (image_at bytes).segments ≡ true → IsLoadable (image_at bytes)
IsLoadable-read bytes few good runs =
    let rising = AreRising-read bytes 0 (header_count bytes) good in
    record {
      rising = rising;
      few = omega (arith, few, length-map-range_with_len (segment_at bytes) 0 (header_count bytes));
      entry = one_runs (xword_at bytes 24) 0 (image_at bytes).segments rising runs;
    }

-- a file of the right kind has at most eight program headers
pub count_tested : (bytes : List ℕ) → is_kind bytes ≡ true → header_count bytes ≤ 8
count_tested bytes e =
    let tables = and_right (has_machine bytes) _ (and_right (has_ident bytes) _ e) in
    let counted = and_right (half_at bytes 54 == 56) _ (and_right (half_at bytes 52 == 64) _ (and_right (xword_at bytes 32 == 64) _ tables)) in
    le_test (header_count bytes) 8 (and_right (nat_le 1 (header_count bytes)) _ counted)
