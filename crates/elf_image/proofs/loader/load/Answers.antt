use Rattle.std.proofs.Common.{true, false, Ok, Err, sym, ap, subst, ◌∙◌}
use Rattle.std.proofs.lemmas.Result.{err_from_is_err_and}
use Rattle.elf_image.specs.Load.{image_at}
use Rattle.elf_image.specs.Loadable.{IsLoadable}
use Rattle.elf_image.proofs.LoadedLemmas.{loaded-short, loaded-no_elf, loaded-other_kind, loaded-refused, loaded-entered, entered-nowhere, entered-somewhere, image_read, entry_tested}
use Rattle.elf_image.proofs.Rising.{IsLoadable-read, count_tested}
use Rattle.elf_image.proofs.loader.load.Goals as goal

pub returns-then-bytes-lt64-clause-loaded : goal.returns-then-bytes-lt64-clause-loaded
returns-then-bytes-lt64-clause-loaded c = λ _. sym (loaded-short c.args.bytes.now c.if-bytes-lt64.true)

pub returns-then-not-is_elf-clause-loaded : goal.returns-then-not-is_elf-clause-loaded
returns-then-not-is_elf-clause-loaded c = λ _. sym (loaded-no_elf c.args.bytes.now c.if-bytes-lt64.false (sym c.is_elf.ensures ∙ c.if-not-is_elf.true))

pub returns-then-not-is_kind-clause-loaded : goal.returns-then-not-is_kind-clause-loaded
returns-then-not-is_kind-clause-loaded c = λ _. sym (loaded-other_kind c.args.bytes.now c.if-bytes-lt64.false (sym c.is_elf.ensures ∙ c.if-not-is_elf.false) (sym c.is_kind.ensures ∙ c.if-not-is_kind.true))

pub returns-in_err-segments-clause-loaded : goal.returns-in_err-segments-clause-loaded
returns-in_err-segments-clause-loaded c =
    let p = err_from_is_err_and c.from_residual.result c.from_residual.ensures.1 in
    let is_elf = sym c.is_elf.ensures ∙ c.if-not-is_elf.false in
    let is_kind = sym c.is_kind.ensures ∙ c.if-not-is_kind.false in
    rw (p.1, p.2) (λ other.
    let bad = c.in_err-segments.ensures.refused (λ e. other (ap Err e)) in
    ap Err bad.2 ∙ sym (loaded-refused c.args.bytes.now bad.0 c.if-bytes-lt64.false is_elf is_kind bad.1))

pub returns-then-not-has_entry-clause-loaded : goal.returns-then-not-has_entry-clause-loaded
returns-then-not-has_entry-clause-loaded c =
    let bytes = c.args.bytes.now in
    let is_elf = sym c.is_elf.ensures ∙ c.if-not-is_elf.false in
    let is_kind = sym c.is_kind.ensures ∙ c.if-not-is_kind.false in
    let all = c.in_ok-segments.ensures.all in
    let nowhere = entry_tested bytes c.xword_at-entry.result c.in_ok-segments.segments c.as_slice.result.now c.has_entry.result false c.xword_at-entry.ensures all.1 c.as_slice.ensures c.has_entry.ensures c.if-not-has_entry.true in
    λ _. sym (loaded-entered bytes c.if-bytes-lt64.false is_elf is_kind all.0 ∙ entered-nowhere (image_at bytes) nowhere)

pub returns-clause-loaded : goal.returns-clause-loaded
returns-clause-loaded c =
    let bytes = c.args.bytes.now in
    let is_elf = sym c.is_elf.ensures ∙ c.if-not-is_elf.false in
    let is_kind = sym c.is_kind.ensures ∙ c.if-not-is_kind.false in
    let all = c.in_ok-segments.ensures.all in
    let somewhere = entry_tested bytes c.xword_at-entry.result c.in_ok-segments.segments c.as_slice.result.now c.has_entry.result true c.xword_at-entry.ensures all.1 c.as_slice.ensures c.has_entry.ensures c.if-not-has_entry.false in
    let image = image_read bytes c.xword_at-entry.result c.in_ok-segments.segments c.xword_at-entry.ensures all.1 in
    λ _. ap Ok image ∙ sym (loaded-entered bytes c.if-bytes-lt64.false is_elf is_kind all.0 ∙ entered-somewhere (image_at bytes) somewhere)

pub returns-clause-loadable : goal.returns-clause-loadable
returns-clause-loadable c =
    let bytes = c.args.bytes.now in
    let is_kind = sym c.is_kind.ensures ∙ c.if-not-is_kind.false in
    let all = c.in_ok-segments.ensures.all in
    let somewhere = entry_tested bytes c.xword_at-entry.result c.in_ok-segments.segments c.as_slice.result.now c.has_entry.result true c.xword_at-entry.ensures all.1 c.as_slice.ensures c.has_entry.ensures c.if-not-has_entry.false in
    let image = image_read bytes c.xword_at-entry.result c.in_ok-segments.segments c.xword_at-entry.ensures all.1 in
    subst IsLoadable (sym image) (IsLoadable-read bytes (count_tested bytes is_kind) all.0 somewhere)
