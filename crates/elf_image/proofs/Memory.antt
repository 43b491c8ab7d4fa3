-- The file that is written has the segments of the memory map, and loads to them.
use Rattle.std.proofs.Common.{◌≡◌, ℕ, ◌+◌, ◌-◌, ◌*◌, ◌≤◌, ◌^◌, Bool, true, false, ◌||◌, ◌==◌, cond, List, [], ◌∷◌, ◌++◌, length, map, replicate, Ok, refl, ap, ◌∙◌, arith, length-append}
use Rattle.std.specs.List.{list_any}
use Rattle.std.proofs.lemmas.List.{length-replicate}
use Rattle.x64_table.specs.declared.image.Code.{Code}
use Rattle.x64_table.specs.declared.image.Segment.{Segment}
use Rattle.x64_table.specs.declared.image.Sizes.{Sizes}
use Rattle.elf_image.specs.declared.header.ProgramHeader.{ProgramHeader}
use Rattle.elf_image.specs.Layout.{data_of, data_place, words_segment, segments_of, image_of, words_header, headers_of, file_of, IsWritable}
use Rattle.elf_image.specs.Load.{end_of, is_good_header, segment_by, can_run, loaded}
use Rattle.elf_image.proofs.LoadedLemmas.{image_with, lt_true}
use Rattle.elf_image.proofs.Laid.{AreLaid, IsFitting, is_good_header-true}
use Rattle.elf_image.proofs.Parts.{code_stands, data_stands, length-file}
use Rattle.elf_image.proofs.Written.{loaded-file_with}

-- ---- a part that may be left out

words : ℕ → ℕ → ProgramHeader
words at n = record { kind = 1; flags = 6; offset = 0; address = at; file_size = 0; memory_size = 8 * n }

-- limits of such a part, behind `end`
record IsPart (end at n : ℕ) : Type 0 where
  behind : end ≤ at
  few : n ≤ 134_217_728
  low : at ≤ 2 ^ 40

words_good : (len end at n : ℕ) → IsPart end at n → is_good_header len end (words at n) ≡ true
unfolding words
words_good len end at n part =
    is_good_header-true len end (words at n)
    (record {
      in_file = omega arith;
      kind = refl;
      low_flag = omega arith;
      high_flag = omega arith;
      filled = omega arith;
      size = omega (arith, part.few);
      low = omega (arith, part.few, part.low);
      behind = part.behind;
    })

words_fit : (end at n : ℕ) → IsPart end at n → IsFitting (words at n)
unfolding words
words_fit end at n part =
    record {
      kind = omega arith;
      flags = omega arith;
      offset = omega arith;
      address = omega (arith, part.low);
      file_size = omega arith;
      memory_size = omega (arith, part.few);
    }

laid_if : (b : Bool) (len end : ℕ) (h : ProgramHeader) (rest : List ProgramHeader) → is_good_header len end h ≡ true → IsFitting h → AreLaid len end rest → AreLaid len (end_of h) rest → AreLaid len end (cond b [] (h ∷ []) ++ rest)
laid_if true len end h rest good fits without behind = without
laid_if false len end h rest good fits without behind = (good, fits, behind)

laid_last : (b : Bool) (len end : ℕ) (h : ProgramHeader) → is_good_header len end h ≡ true → IsFitting h → AreLaid len end (cond b [] (h ∷ []))
laid_last true len end h good fits = tt
laid_last false len end h good fits = (good, fits, tt)

AreLaid-words : (len end at n : ℕ) (rest : List ProgramHeader) → IsPart end at n → ((e : ℕ) → e ≤ at + 2 ^ 30 → AreLaid len e rest) → AreLaid len end (words_header at n ++ rest)
unfolding words
AreLaid-words len end at n rest part next =
    laid_if (n == 0) len end (words at n) rest (words_good len end at n part) (words_fit end at n part) (next end (omega (arith, part.behind))) (next (at + 8 * n) (omega (arith, part.few)))

AreLaid-last : (len end at n : ℕ) → IsPart end at n → AreLaid len end (words_header at n)
unfolding words
AreLaid-last len end at n part = laid_last (n == 0) len end (words at n) (words_good len end at n part) (words_fit end at n part)

map_if : (b : Bool) (f : ProgramHeader → Segment) (h : ProgramHeader) (rest : List ProgramHeader) (others : List Segment) → map f rest ≡ others → map f (cond b [] (h ∷ []) ++ rest) ≡ cond b [] (f h ∷ []) ++ others
map_if true f h rest others e = e
map_if false f h rest others e = ap (λ xs. f h ∷ xs) e

map_last : (b : Bool) (f : ProgramHeader → Segment) (h : ProgramHeader) → map f (cond b [] (h ∷ [])) ≡ cond b [] (f h ∷ [])
map_last true f h = refl
map_last false f h = refl

segments-words : (file : List ℕ) (at n : ℕ) (rest : List ProgramHeader) (others : List Segment) → map (segment_by file) rest ≡ others → map (segment_by file) (words_header at n ++ rest) ≡ words_segment at n ++ others
unfolding words
segments-words file at n rest others e = map_if (n == 0) (segment_by file) (words at n) rest others e

segments-last : (file : List ℕ) (at n : ℕ) → map (segment_by file) (words_header at n) ≡ words_segment at n
unfolding words
segments-last file at n = map_last (n == 0) (segment_by file) (words at n)

length_if : (b : Bool) (h : ProgramHeader) (rest : List ProgramHeader) → length (cond b [] (h ∷ []) ++ rest) ≤ length rest + 1
length_if true h rest = omega arith
length_if false h rest = omega arith

length_last : (b : Bool) (h : ProgramHeader) → length (cond b [] (h ∷ [])) ≤ 1
length_last true h = omega arith
length_last false h = omega arith

-- ---- all parts

length-data_of : (c : Code) → length (data_of c) ≡ length c.literals + (8 - length c.literals)
length-data_of c = length-append c.literals (replicate (8 - length c.literals) 0) ∙ ap (λ n. length c.literals + n) (length-replicate {A = ℕ} (8 - length c.literals) 0)

data_place_behind : (c : Code) → 0x1000 + length c.bytes ≤ data_place c
data_place_behind c = omega arith

data_place_below : (c : Code) → data_place c ≤ 0x1000 + length c.bytes + 0xfff
data_place_below c = omega arith

few_headers : (c : Code) (z : Sizes) → length (headers_of c z) ≤ 8
unfolding words
few_headers c z =
    let last = words_header 0x3_0000_0000 z.stack in
    let of_stack = length_last (z.stack == 0) (words 0x3_0000_0000 z.stack) in
    let of_local = length_if (z.local == 0) (words 0x2_0000_0000 z.local) last in
    let of_area = length_if (z.area == 0) (words 0x1_0000_0000 z.area) (words_header 0x2_0000_0000 z.local ++ last) in
    omega (arith, of_stack, of_local, of_area)

code_header : Code → ProgramHeader
code_header c = record { kind = 1; flags = 5; offset = 0x1000; address = 0x40_0000; file_size = length c.bytes; memory_size = length c.bytes }

data_header : Code → ProgramHeader
data_header c = record { kind = 1; flags = 6; offset = data_place c; address = 0x4000_0000; file_size = length (data_of c); memory_size = length (data_of c) }

code_good : (c : Code) (z : Sizes) → IsWritable c z → (len : ℕ) → len ≡ data_place c + length (data_of c) → is_good_header len 0 (code_header c) ≡ true
unfolding code_header
code_good c z w len len_is =
    is_good_header-true len 0 (code_header c)
    (record {
      in_file = omega (arith, len_is, data_place_behind c);
      kind = refl;
      low_flag = omega arith;
      high_flag = omega arith;
      filled = omega arith;
      size = omega (arith, w.code);
      low = omega (arith, w.code);
      behind = omega arith;
    })

code_fits : (c : Code) (z : Sizes) → IsWritable c z → IsFitting (code_header c)
unfolding code_header
code_fits c z w = record { kind = omega arith; flags = omega arith; offset = omega arith; address = omega arith; file_size = omega (arith, w.code); memory_size = omega (arith, w.code) }

data_good : (c : Code) (z : Sizes) → IsWritable c z → (len : ℕ) → len ≡ data_place c + length (data_of c) → is_good_header len (end_of (code_header c)) (data_header c) ≡ true
unfolding code_header data_header
data_good c z w len len_is =
    let long = length-data_of c in
    is_good_header-true len (end_of (code_header c)) (data_header c)
    (record {
      in_file = omega (arith, len_is);
      kind = refl;
      low_flag = omega arith;
      high_flag = omega arith;
      filled = omega arith;
      size = omega (arith, long, w.literals);
      low = omega (arith, long, w.literals);
      behind = omega (arith, w.code);
    })

data_fits : (c : Code) (z : Sizes) → IsWritable c z → IsFitting (data_header c)
unfolding data_header
data_fits c z w =
    let long = length-data_of c in
    record {
      kind = omega arith;
      flags = omega arith;
      offset = omega (arith, data_place_below c, w.code);
      address = omega arith;
      file_size = omega (arith, long, w.literals);
      memory_size = omega (arith, long, w.literals);
    }

-- the area and both stacks, behind the data
laid_words : (z : Sizes) (len end : ℕ) → end ≤ 0x1_0000_0000 → z.area ≤ 134_217_728 → z.local ≤ 134_217_728 → z.stack ≤ 134_217_728
    → AreLaid len end (words_header 0x1_0000_0000 z.area ++ (words_header 0x2_0000_0000 z.local ++ words_header 0x3_0000_0000 z.stack))
laid_words z len end low area local stack =
    AreLaid-words len end 0x1_0000_0000 z.area (words_header 0x2_0000_0000 z.local ++ words_header 0x3_0000_0000 z.stack) (record { behind = low; few = area; low = omega arith })
    (λ e e_low. AreLaid-words len e 0x2_0000_0000 z.local (words_header 0x3_0000_0000 z.stack) (record { behind = omega (arith, e_low); few = local; low = omega arith })
    (λ f f_low. AreLaid-last len f 0x3_0000_0000 z.stack (record { behind = omega (arith, f_low); few = stack; low = omega arith })))

laid : (c : Code) (z : Sizes) → IsWritable c z → (len : ℕ) → len ≡ data_place c + length (data_of c) → AreLaid len 0 (headers_of c z)
unfolding code_header data_header
laid c z w len len_is =
    let end_low : end_of (data_header c) ≤ 0x1_0000_0000 = omega (arith, length-data_of c, w.literals) in
    (code_good c z w len len_is, code_fits c z w, (data_good c z w len len_is, data_fits c z w, laid_words z len (end_of (data_header c)) end_low w.area w.local w.stack))

segment_with : ℕ → ℕ → ℕ → List ℕ → Segment
segment_with at size flags bytes = record { at = at; size = size; flags = flags; bytes = bytes }

two_more : (a b : Segment) (xs ys : List Segment) (a' b' : Segment) → a ≡ a' → b ≡ b' → xs ≡ ys → a ∷ b ∷ xs ≡ a' ∷ b' ∷ ys
two_more a b xs ys a' b' p q r = cc

segments : (c : Code) (z : Sizes) → map (segment_by (file_of c z)) (headers_of c z) ≡ segments_of c z
unfolding file_of segment_with
segments c z =
    let file = file_of c z in
    let few = few_headers c z in
    let code_is = ap (segment_with 0x40_0000 (length c.bytes) 5) (code_stands (headers_of c z) c.bytes (data_place c) (data_of c) few) in
    let data_is = ap (segment_with 0x4000_0000 (length (data_of c)) 6) (data_stands (headers_of c z) c.bytes (data_place c) (data_of c) few (data_place_behind c)) in
    let last = segments-last file 0x3_0000_0000 z.stack in
    let local = segments-words file 0x2_0000_0000 z.local _ _ last in
    let area = segments-words file 0x1_0000_0000 z.area _ _ local in
    two_more _ _ _ _ _ _ code_is data_is area

-- the entry is the first byte of the code
runs : (c : Code) (z : Sizes) → 1 ≤ length c.bytes → list_any (can_run 0x40_0000) (segments_of c z) ≡ true
runs c z some = ap (λ b. b || list_any (can_run 0x40_0000) (rest_of c z)) (lt_true 0x40_0000 (0x40_0000 + length c.bytes) (omega (arith, some)))
  where
    rest_of : Code → Sizes → List Segment
    rest_of c z = record { at = 0x4000_0000; size = length (data_of c); flags = 6; bytes = data_of c } ∷ (words_segment 0x1_0000_0000 z.area ++ (words_segment 0x2_0000_0000 z.local ++ words_segment 0x3_0000_0000 z.stack))

pub loaded-file_of : (c : Code) (z : Sizes) → IsWritable c z → loaded (file_of c z) ≡ Ok (image_of c z)
unfolding file_of
loaded-file_of c z w =
    let few = few_headers c z in
    let len_is = length-file (headers_of c z) c.bytes (data_place c) (data_of c) few (data_place_behind c) in
    let made = segments c z in
    loaded-file_with (headers_of c z) c.bytes (data_place c) (data_of c) (omega arith) few (laid c z w _ len_is) (ap (list_any (can_run 0x40_0000)) made ∙ runs c z w.starts)
    ∙ ap (λ s. Ok (image_with 0x40_0000 s)) made
