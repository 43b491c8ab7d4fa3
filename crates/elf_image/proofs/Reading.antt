-- Facts about the program headers of a file, in the form in which the loader meets them.
use Rattle.std.proofs.Common.{◌≡◌, ℕ, suc, ◌+◌, ◌-◌, ◌≤◌, ◌<◌, ◌^◌, Bool, true, false, ◌&&◌, not, nat_le, cond, List, ◌∷◌, ◌++◌, [], append_assoc, add-one, length, map, find, Some, refl, sym, ap, subst, ◌∙◌, arith}
use Rattle.std.proofs.lemmas.Bool.Decides.{nat_tests}
use Rattle.std.specs.List.{range_with_len}
use Rattle.elf_image.specs.declared.header.ProgramHeader.{ProgramHeader}
use Rattle.elf_image.specs.Fields.{header_place, header_at}
use Rattle.elf_image.specs.Load.{end_of, end_before, is_in_file, has_flags, has_room, is_behind, is_good_header, is_good}

pub and_false : (a b : Bool) → b ≡ false → (a && b) ≡ false
and_false true b e = e
and_false false b e = refl

pub and_true : (a b : Bool) → a ≡ true → b ≡ true → (a && b) ≡ true
and_true true b _ e = e
and_true false b e _ = e

pub and_left : (a b : Bool) → (a && b) ≡ true → a ≡ true
and_left true b e = refl
and_left false b e = e

pub and_right : (a b : Bool) → (a && b) ≡ true → b ≡ true
and_right true b e = e
and_right false b e = absurd (cc)

pub test_le : (a b : ℕ) → a ≤ b → nat_le a b ≡ true
test_le a b h = grind (arith, nat_tests)

pub le_test : (a b : ℕ) → nat_le a b ≡ true → a ≤ b
le_test a b h = grind (arith, nat_tests)

-- the parts of a header's tests
pub in_file : (len end : ℕ) (h : ProgramHeader) → is_good_header len end h ≡ true → is_in_file len h ≡ true
in_file len end h e = and_left (is_in_file len h) _ e

pub flags_tested : (len end : ℕ) (h : ProgramHeader) → is_good_header len end h ≡ true → has_flags h ≡ true
flags_tested len end h e = and_left (has_flags h) _ (and_right (is_in_file len h) _ e)

pub room_tested : (len end : ℕ) (h : ProgramHeader) → is_good_header len end h ≡ true → has_room h ≡ true
room_tested len end h e = and_left (has_room h) _ (and_right (has_flags h) _ (and_right (is_in_file len h) _ e))

pub behind_tested : (len end : ℕ) (h : ProgramHeader) → is_good_header len end h ≡ true → is_behind end h ≡ true
behind_tested len end h e = and_right (has_room h) _ (and_right (has_flags h) _ (and_right (is_in_file len h) _ e))

-- what the tests of a program header answer, where they are made of what was read
tested_as : (bytes : List ℕ) (n end : ℕ) (h : ProgramHeader) (b c : Bool) → end ≡ end_before bytes n → h ≡ header_at bytes n → b ≡ is_good_header (length bytes) end h → b ≡ c
    → is_good_header (length bytes) (end_before bytes n) (header_at bytes n) ≡ c
tested_as bytes n end h b c e_is h_is b_is b_c =
    let with_end = subst (λ (x : ℕ). b ≡ is_good_header (length bytes) x h) e_is b_is in
    let with_both = subst (λ (x : ProgramHeader). b ≡ is_good_header (length bytes) (end_before bytes n) x) h_is with_end in
    sym with_both ∙ b_c

-- a program header that cannot be loaded
pub is_good-bad_header : (bytes : List ℕ) (n end : ℕ) (h : ProgramHeader) (b : Bool) → end ≡ end_before bytes n → h ≡ header_at bytes n → b ≡ is_good_header (length bytes) end h → b ≡ false → is_good bytes n ≡ false
is_good-bad_header bytes n end h b e_is h_is b_is bad =
    and_false (nat_le (header_place (n + 1)) (length bytes)) (is_good_header (length bytes) (end_before bytes n) (header_at bytes n)) (tested_as bytes n end h b false e_is h_is b_is bad)

-- a program header that is in the file and can be loaded
pub is_good-good_header : (bytes : List ℕ) (n end : ℕ) (h : ProgramHeader) (b : Bool) → header_place (n + 1) ≤ length bytes → end ≡ end_before bytes n → h ≡ header_at bytes n → b ≡ is_good_header (length bytes) end h → b ≡ true
    → is_good bytes n ≡ true
is_good-good_header bytes n end h b within e_is h_is b_is good =
    and_true (nat_le (header_place (n + 1)) (length bytes)) (is_good_header (length bytes) (end_before bytes n) (header_at bytes n)) (test_le _ _ within) (tested_as bytes n end h b true e_is h_is b_is good)

pub header_tested : (bytes : List ℕ) (n : ℕ) → is_good bytes n ≡ true → is_good_header (length bytes) (end_before bytes n) (header_at bytes n) ≡ true
header_tested bytes n e = and_right (nat_le (header_place (n + 1)) (length bytes)) _ e

-- the end of a segment that is loaded fits its limit
pub end_below : (bytes : List ℕ) (n : ℕ) → is_good bytes n ≡ true → end_of (header_at bytes n) ≤ 2 ^ 47
end_below bytes n e =
    let h = header_at bytes n in
    le_test (end_of h) (2 ^ 47) (and_left (nat_le (end_of h) (2 ^ 47)) _ (behind_tested (length bytes) (end_before bytes n) h (header_tested bytes n e)))

-- the next of the numbers that are left
left : (n count : ℕ) → n < count → range_with_len n (count - n) ≡ n ∷ range_with_len (n + 1) (count - (n + 1))
left n count h = let e : count - n ≡ suc (count - (n + 1)) = omega arith in rw e refl

pub not_true : (b : Bool) → b ≡ true → not b ≡ false
not_true true e = refl
not_true false e = sym e

pub not_false : (b : Bool) → b ≡ false → not b ≡ true
not_false true e = sym e
not_false false e = refl

-- one number more was tested
pub find_next : (good : ℕ → Bool) (n count : ℕ) → n < count → good n ≡ true
    → find (λ k. not (good k)) (range_with_len n (count - n)) ≡ find (λ k. not (good k)) (range_with_len (n + 1) (count - (n + 1)))
find_next good n count h e =
    ap (find (λ k. not (good k))) (left n count h)
    ∙ ap (λ b. cond b (Some n) (find (λ k. not (good k)) (range_with_len (n + 1) (count - (n + 1))))) (not_true (good n) e)

-- this number is the first that fails
pub find_here : (good : ℕ → Bool) (n count : ℕ) → n < count → good n ≡ false → find (λ k. not (good k)) (range_with_len n (count - n)) ≡ Some n
find_here good n count h e =
    ap (find (λ k. not (good k))) (left n count h)
    ∙ ap (λ b. cond b (Some n) (find (λ k. not (good k)) (range_with_len (n + 1) (count - (n + 1))))) (not_false (good n) e)

-- one element more is made
pub map_next : {X : Type 0} (f : ℕ → X) (xs : List X) (n count : ℕ) → n < count
    → (xs ++ f n ∷ []) ++ map f (range_with_len (n + 1) (count - (n + 1))) ≡ xs ++ map f (range_with_len n (count - n))
map_next f xs n count h = append_assoc xs (f n ∷ []) _ ∙ ap (λ r. xs ++ map f r) (sym (left n count h))

pub end_before-next : (bytes : List ℕ) (n : ℕ) → end_before bytes (n + 1) ≡ end_of (header_at bytes n)
end_before-next bytes n = rw add-one refl
