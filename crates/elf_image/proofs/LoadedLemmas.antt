-- What a file loads to, by the tests that it passes.
use Rattle.std.proofs.Common.{◌≡◌, ℕ, ◌≤◌, ◌<◌, Bool, true, false, cond, nat_lt, List, length, Some, None, Ok, Err, sym, ap, ◌∙◌, arith}
use Rattle.std.specs.List.{list_any}
use Rattle.std.proofs.lemmas.Bool.Decides.{nat_tests}
use Rattle.x64_table.specs.declared.image.Image.{Image}
use Rattle.x64_table.specs.declared.image.Segment.{Segment}
use Rattle.elf_image.specs.Fields.{xword_at}
use Rattle.elf_image.specs.declared.error.ImageErr.TheVariants.{Short, Magic, Kind, Segment as RefusedSegment, Entry}
use Rattle.elf_image.specs.Load.{is_elf, is_kind, refused_segment, image_at, can_run, entered, loaded_unless, loaded}
use Rattle.elf_image.proofs.Reading.{not_true, not_false}

cond_true : {A : Type 0} (b : Bool) (x y : A) → b ≡ true → cond b x y ≡ x
cond_true b x y e = ap (λ c. cond c x y) e

cond_false : {A : Type 0} (b : Bool) (x y : A) → b ≡ false → cond b x y ≡ y
cond_false b x y e = ap (λ c. cond c x y) e

pub lt_true : (a b : ℕ) → a < b → nat_lt a b ≡ true
lt_true a b h = grind (arith, nat_tests)

lt_false : (a b : ℕ) → b ≤ a → nat_lt a b ≡ false
lt_false a b h = grind (arith, nat_tests)

pub loaded-short : (bytes : List ℕ) → length bytes < 64 → loaded bytes ≡ Err Short
unfolding loaded
loaded-short bytes short = cond_true _ _ _ (lt_true (length bytes) 64 short)

pub loaded-no_elf : (bytes : List ℕ) → 64 ≤ length bytes → is_elf bytes ≡ false → loaded bytes ≡ Err Magic
unfolding loaded
loaded-no_elf bytes long e = cond_false _ _ _ (lt_false (length bytes) 64 long) ∙ cond_true _ _ _ (not_false (is_elf bytes) e)

pub loaded-other_kind : (bytes : List ℕ) → 64 ≤ length bytes → is_elf bytes ≡ true → is_kind bytes ≡ false → loaded bytes ≡ Err Kind
unfolding loaded
loaded-other_kind bytes long e k =
    cond_false _ _ _ (lt_false (length bytes) 64 long) ∙ (cond_false _ _ _ (not_true (is_elf bytes) e) ∙ cond_true _ _ _ (not_false (is_kind bytes) k))

-- past the tests of the file header
pub loaded-by_segments : (bytes : List ℕ) → 64 ≤ length bytes → is_elf bytes ≡ true → is_kind bytes ≡ true → loaded bytes ≡ loaded_unless (refused_segment bytes) bytes
unfolding loaded
loaded-by_segments bytes long e k =
    cond_false _ _ _ (lt_false (length bytes) 64 long) ∙ (cond_false _ _ _ (not_true (is_elf bytes) e) ∙ cond_false _ _ _ (not_true (is_kind bytes) k))

pub loaded-refused : (bytes : List ℕ) (n : ℕ) → 64 ≤ length bytes → is_elf bytes ≡ true → is_kind bytes ≡ true → refused_segment bytes ≡ Some n → loaded bytes ≡ Err (RefusedSegment n)
loaded-refused bytes n long e k r = loaded-by_segments bytes long e k ∙ ap (λ o. loaded_unless o bytes) r

pub loaded-entered : (bytes : List ℕ) → 64 ≤ length bytes → is_elf bytes ≡ true → is_kind bytes ≡ true → refused_segment bytes ≡ None → loaded bytes ≡ entered (image_at bytes)
loaded-entered bytes long e k r = loaded-by_segments bytes long e k ∙ ap (λ o. loaded_unless o bytes) r

pub entered-nowhere : (image : Image) → list_any (can_run image.entry) image.segments ≡ false → entered image ≡ Err Entry
entered-nowhere image e = cond_false _ _ _ e

pub entered-somewhere : (image : Image) → list_any (can_run image.entry) image.segments ≡ true → entered image ≡ Ok image
entered-somewhere image e = cond_true _ _ _ e

abbrev pub image_with : ℕ → List Segment → Image
image_with entry segments = record { entry = entry; segments = segments }

-- the image that the loader made of what it read
pub image_read : (bytes : List ℕ) (entry : ℕ) (segments : List Segment) → entry ≡ xword_at bytes 24 → segments ≡ (image_at bytes).segments → image_with entry segments ≡ image_at bytes
image_read bytes entry segments entry_is segments_are = ap (λ e. image_with e segments) entry_is ∙ ap (λ s. image_with (xword_at bytes 24) s) segments_are

-- what the test of the entry answers, where it is made of what was read
pub entry_tested : (bytes : List ℕ) (entry : ℕ) (segments slice : List Segment) (b c : Bool) → entry ≡ xword_at bytes 24 → segments ≡ (image_at bytes).segments → slice ≡ segments → b ≡ list_any (can_run entry) slice → b ≡ c
    → list_any (can_run (image_at bytes).entry) (image_at bytes).segments ≡ c
entry_tested bytes entry segments slice b c entry_is segments_are slice_is b_is b_c =
    let by_slice = ap (list_any (can_run entry)) (slice_is ∙ segments_are) in
    let by_entry = ap (λ e. list_any (can_run e) (image_at bytes).segments) entry_is in
    sym by_entry ∙ (sym by_slice ∙ (sym b_is ∙ b_c))
