-- What an error that is handed on says.
use Rattle.std.proofs.Common.{◌≡◌, List, subst, sym, Result, Ok, Err, IfOk, IfErr, IsErrAnd}
use Rattle.ml_lexer.specs.declared.token.Token.{Token}
use Rattle.ml_cursor.specs.declared.error.ParseErr.{ParseErr}
use Rattle.ml_cursor.specs.declared.error.ParseErr.TheVariants.{Refused, NoMemory}
use Rattle.ml_cursor.specs.Says.{Says}

pub says : (tokens : List Token) {P Q : Type 0} (e : ParseErr) → (P → Q) → Says tokens P e → Says tokens Q e
says tokens (Refused r) f s = (s.0, f s.1)
says tokens NoMemory f s = s

pub relay : (tokens : List Token) (e : ParseErr) {A : Type 0} (r : Result A ParseErr) {P Q : Type 0} → (P → Q) → Says tokens P e → IsErrAnd r (λ x. x ≡ e) → IfErr r (Says tokens Q)
relay tokens e (Ok v) f s h = absurd h
relay tokens e (Err x) {Q = Q} f s h = subst (Says tokens Q) (sym h) (says tokens e f s)

pub if_ok : {A : Type 0} (r : Result A ParseErr) {P Q : A → Type 0} → ((v : A) → P v → Q v) → IfOk r P → IfOk r Q
if_ok (Ok v) f h = f v h
if_ok (Err e) f h = h

pub if_err : {A : Type 0} (r : Result A ParseErr) {P Q : ParseErr → Type 0} → ((e : ParseErr) → P e → Q e) → IfErr r P → IfErr r Q
if_err (Ok v) f h = h
if_err (Err e) f h = f e h

pub if_both : {A : Type 0} (r : Result A ParseErr) {P Q R : A → Type 0} → ((v : A) → P v → Q v → R v) → IfOk r P → IfOk r Q → IfOk r R
if_both (Ok v) f h i = f v h i
if_both (Err e) f h i = h
