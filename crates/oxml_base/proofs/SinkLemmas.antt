-- A put that took a first part of its piece.
use Rattle.std.proofs.Common.{◌≡◌, ℕ, List, ◌++◌, take, drop, sym}
use Rattle.std.proofs.lemmas.List.{take-append-drop}
use Rattle.oxml_base.specs.Outside.{SinkView, Rose, PutFails}

pub fails_after_part : (old new : SinkView) (piece : List ℕ) (n : ℕ) → new.tells ≡ old.tells → new.written ≡ old.written ++ take n piece → Rose old.faults new.faults → PutFails old new piece
fails_after_part old new piece n tells written rose = record {
  gains = record {
    part = take n piece;
    rest = drop n piece;
    split = sym (take-append-drop n piece);
    gains = record { tells = tells; written = λ _. written };
  };
  rose = rose;
}
