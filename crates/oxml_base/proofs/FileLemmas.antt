-- Bytes that come behind those that were there.
use Rattle.std.proofs.Common.{List, [], ℕ, ◌++◌, append_assoc, append-nil, sym}
use Rattle.oxml_base.specs.Files.{Grows}

pub grows_none : (bytes : List ℕ) → Grows bytes bytes
grows_none bytes = record { more = []; appended = sym (append-nil bytes) }

pub grows_more : (first second third : List ℕ) → Grows first second → Grows second third → Grows first third
grows_more first second third one two = record {
  more = one.more ++ two.more;
  appended = rw (two.appended, one.appended) (append_assoc first one.more two.more);
}
