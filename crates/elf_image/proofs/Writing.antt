-- The parts that were written one after the other make the file.
use Rattle.std.proofs.Common.{◌≡◌, ℕ, List, [], ◌-◌, ◌++◌, length, flat_map, replicate, ap, ◌∙◌}
use Rattle.elf_image.specs.declared.header.ProgramHeader.{ProgramHeader}
use Rattle.elf_image.specs.Fields.{padded, program_header}
use Rattle.elf_image.specs.Layout.{file_header, file_with}

pub file_with-parts : (headers : List ProgramHeader) (code content head none headed listed started coded gapped all : List ℕ) (n place : ℕ)
    → none ≡ [] → head ≡ file_header n → n ≡ length headers → headed ≡ none ++ head → listed ≡ headed ++ flat_map program_header headers → started ≡ padded 0x1000 listed → coded ≡ started ++ code → gapped ≡ padded place coded
    → all ≡ gapped ++ content → all ≡ file_with headers code place content
file_with-parts headers code content head none headed listed started coded gapped all n place none_is head_is n_is headed_is listed_is started_is coded_is gapped_is all_is =
    let header : headed ≡ file_header (length headers) = headed_is ∙ (ap (λ x. x ++ head) none_is ∙ (head_is ∙ ap file_header n_is)) in
    let list = listed_is ∙ ap (λ x. x ++ flat_map program_header headers) header in
    let start = started_is ∙ ap (padded 0x1000) list in
    let code_in = coded_is ∙ ap (λ x. x ++ code) start in
    let gap = gapped_is ∙ ap (padded place) code_in in
    all_is ∙ ap (λ x. x ++ content) gap

-- the same parts make the same file
pub file_with-same : (headers headers' : List ProgramHeader) (code code' literals literals' : List ℕ) (place place' : ℕ) → headers ≡ headers' → code ≡ code' → literals ≡ literals' → place ≡ place'
    → file_with headers code place (literals ++ replicate (8 - length literals) 0) ≡ file_with headers' code' place' (literals' ++ replicate (8 - length literals') 0)
file_with-same headers headers' code code' literals literals' place place' p q r s =
    ap (λ x. file_with x code place (literals ++ replicate (8 - length literals) 0)) p
    ∙ (ap (λ x. file_with headers' x place (literals ++ replicate (8 - length literals) 0)) q
    ∙ (ap (λ x. file_with headers' code' x (literals ++ replicate (8 - length literals) 0)) s
    ∙ ap (λ (x : List ℕ). file_with headers' code' place' (x ++ replicate (8 - length x) 0)) r))
