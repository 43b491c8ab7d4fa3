-- A run of the machine under a list of the kernel's answers.
use Rattle.std.specs.Prelude.{ℕ, zero, suc, ◌+◌, Bool, false, not, List, [], ◌∷◌, ◌++◌, ℤ, pos, negsuc, if◌then◌else◌, ◌==◌, ◌&&◌, ◌||◌, nat_lt, nat_le, unwrap_or}
use Rattle.x64_table.specs.declared.cpu.Stepped.TheVariants.{Went, Asked, Exit, Fault}
use Rattle.x64_table.specs.declared.image.Image.{Image}
use Rattle.x64_table.specs.Machine.{Loaded, State, Next, begun, byte_at, answered, step_of}

-- how a run stands
pub data Ending : Type 0 where
  Going : Ending
  Exited : ℕ → Ending
  Faulted : ℕ → Ending

pub record Run : Type 0 where
  pub state : State
  pub ending : Ending
  -- the answers that are not used yet; past their end a write takes all its bytes
  pub left : List ℤ
  -- some answer was a refusal
  pub refused : Bool
  -- something was asked after a refusal
  pub asked_again : Bool
  -- what was written: channels and bytes
  pub out : List (ℕ × ℕ)

-- how many bytes an answer to a write of len bytes takes
abbrev pub taken : ℤ → ℕ → ℕ
taken (pos n) len = if nat_le n len then n else 0
taken (negsuc _) len = 0

-- an answer is good where it takes bytes, or is -4
abbrev pub is_good : ℤ → ℕ → Bool
is_good (pos n) len = nat_lt 0 n && nat_le n len
is_good (negsuc k) len = k == 3

-- the n bytes from a on, on a channel
unfoldable pub put_bytes : List Loaded → ℕ → ℕ → ℕ → List (ℕ × ℕ)
put_bytes segments channel a zero = []
put_bytes segments channel a (suc n) =
    (channel, unwrap_or (byte_at segments a) 0) ∷ put_bytes segments channel (a + 1) n

abbrev pub answer_with : Run → ℕ → ℕ → ℕ → ℤ → List ℤ → Run
answer_with r channel a len n left =
    record r {
      state = answered r.state n;
      left = left;
      refused = r.refused || not (is_good n len);
      asked_again = r.asked_again || r.refused;
      out = r.out ++ put_bytes r.state.segments channel a (taken n len);
    }

abbrev pub ask_next : Run → ℕ → ℕ → ℕ → List ℤ → Run
ask_next r channel a len [] = answer_with r channel a len (pos len) []
ask_next r channel a len (n ∷ left) = answer_with r channel a len n left

-- a write that is asked is one step together with its answer
abbrev pub go_on : Run → Next → Run
go_on r (Went, s) = record r { state = s }
go_on r (Asked channel a len, s) = ask_next (record r { state = s }) channel a len r.left
go_on r (Exit status, s) = record r { state = s; ending = Exited status }
go_on r (Fault at, s) = record r { state = s; ending = Faulted at }

abbrev pub go_if : Ending → Run → Run
go_if Going r = go_on r (step_of r.state)
go_if (Exited _) r = r
go_if (Faulted _) r = r

-- a run that has ended stays
unfoldable pub next : Run → Run
next r = go_if r.ending r

unfoldable pub after : ℕ → Run → Run
after zero r = r
after (suc n) r = after n (next r)

abbrev pub run_from : State → List ℤ → Run
run_from s answers =
    record { state = s; ending = Going; left = answers; refused = false; asked_again = false; out = [] }

-- the run of the program of an image under a list of answers
abbrev pub start : Image → List ℤ → Run
start image answers = run_from (begun image) answers
