-- Clauses by their forms.
use Rattle.std.proofs.Common.{◌≡◌, ℕ, zero, suc, ◌+◌, List, [], ◌∷◌, take, map, Some, Bool, slice_get, refl, sym, ap, ◌∙◌, subst}
use Rattle.std.specs.Option.{option_map}
use Rattle.std.proofs.lemmas.List.{take-map}
use Rattle.std.proofs.lemmas.Option.{slice_get-map}
use Rattle.oxml_base.specs.declared.refusal.Refusal.{Refusal}
use Rattle.mode_lattice.specs.declared.clause.Bit.{Bit}
use Rattle.mode_lattice.specs.declared.clause.Clause.{Clause}
use Rattle.mode_lattice.specs.declared.clause.ClauseList.{ClauseList}
use Rattle.mode_lattice.specs.declared.clause.Form.{Form}
use Rattle.mode_lattice.specs.declared.table.Table.{Table}
use Rattle.mode_lattice.specs.Clauses.{Holds, Obeys, IsBelow, IsClosed, value, IsLeast, IsGreatest, LeadsToForbidden, IsConflict, IsRefused}
use Rattle.mode_solver.specs.Forms.{Fits, AllBelow, Leads, IsPath}
use Rattle.mode_solver.specs.Searching.{IsLeastOf, IsGreatestOf, IsConflictOf}
use Rattle.mode_solver.proofs.Turns.{path-none}

abbrev pub forms_of : List Clause → List Form
forms_of list = map (λ c. c.form) list

form-is : (list : List Clause) (i : ℕ) (c : Clause) → slice_get list i ≡ Some c → slice_get (forms_of list) i ≡ Some c.form
form-is list i c h = slice_get-map (λ (x : Clause). x.form) list i ∙ ap (option_map (λ (x : Clause). x.form)) h

clause-is : (list : List Clause) (i : ℕ) (f : Form) → slice_get (forms_of list) i ≡ Some f → (c : Clause) × (slice_get list i ≡ Some c) × (c.form ≡ f)
clause-is [] i f h = let no' : ⊥ = cc in absurd no'
clause-is (c ∷ rest) zero f h = let same : c.form ≡ f = cc in (c, refl, same)
clause-is (c ∷ rest) (suc i) f h = clause-is rest i f h

pub Obeys-from_fits : (t : ℕ → Bool) (list : List Clause) → Fits t (forms_of list) → Obeys t list
Obeys-from_fits t list fits = record { each = λ i c h. fits.each i c.form (form-is list i c h) }

pub Fits-from_obeys : (t : ℕ → Bool) (list : List Clause) → Obeys t list → Fits t (forms_of list)
Fits-from_obeys t list obeys = record {
  each = λ i f h.
      let c : (c : Clause) × (slice_get list i ≡ Some c) × (c.form ≡ f) = clause-is list i f h in
      let P : Form → Type 0 = λ x. Holds t x in
      subst P c.2 (obeys.each i c.0 c.1);
}

pub AllBelow-from_closed : (c : ClauseList) → IsClosed c → AllBelow c.bits (forms_of c.list)
AllBelow-from_closed c closed = record {
  each = λ i f h.
      let k : (k : Clause) × (slice_get c.list i ≡ Some k) × (k.form ≡ f) = clause-is c.list i f h in
      let P : Form → Type 0 = λ x. IsBelow c.bits x in
      subst P k.2 (closed.each i k.0 k.1);
}

pub IsLeast-from_forms : (c : ClauseList) (table : Table) → IsLeastOf c.bits (forms_of c.list) table.bits → IsLeast c table
IsLeast-from_forms c table l = record {
  count = l.count;
  obeys = Obeys-from_fits (value table) c.list l.fits;
  least = λ t obeys. l.least t (Fits-from_obeys t c.list obeys);
}

pub IsGreatest-from_forms : (c : ClauseList) (table : Table) → IsGreatestOf c.bits (forms_of c.list) table.bits → IsGreatest c table
IsGreatest-from_forms c table g = record {
  count = g.count;
  obeys = Obeys-from_fits (value table) c.list g.fits;
  greatest = λ t obeys. g.greatest t (Fits-from_obeys t c.list obeys);
}

leads-clauses : (list : List Clause) (bit : Bit) (path : List ℕ) → Leads (forms_of list) bit path → LeadsToForbidden list bit path
leads-clauses list bit [] leads = leads
leads-clauses list bit (n ∷ []) leads = sym (slice_get-map (λ (x : Clause). x.form) list n) ∙ leads
leads-clauses list bit (n ∷ m ∷ rest) leads = (leads.0, sym (slice_get-map (λ (x : Clause). x.form) list n) ∙ leads.1, leads-clauses list leads.0 (m ∷ rest) leads.2)

conflict-clauses : (list : List Clause) (path : List ℕ) → IsPath (forms_of list) path → IsConflict list path
conflict-clauses list [] path = path
conflict-clauses list (n ∷ rest) path = (path.0, sym (slice_get-map (λ (x : Clause). x.form) list n) ∙ path.1, leads-clauses list path.0 rest path.2)

pub IsRefused-from_forms : (c : ClauseList) (k : ℕ) (refusal : Refusal) (path : List ℕ) (clause : Clause) → slice_get c.list k ≡ Some clause → refusal ≡ record { rule = clause.rule; span = clause.span } → IsConflictOf (forms_of c.list) k path → IsRefused c k refusal path
IsRefused-from_forms c k refusal path clause at is conflict =
    let P : List Form → Type 0 = λ forms. Fits conflict.before.0 forms in
    let Q : List Form → Type 0 = λ forms. IsPath forms path in
    let path_is : IsPath (forms_of (take (k + 1) c.list)) path = subst Q (take-map (λ (x : Clause). x.form) (k + 1) c.list) conflict.path_is in
    record {
      last = (clause, at, ap (λ (r : Refusal). r.rule) is, ap (λ (r : Refusal). r.span) is);
      before = (conflict.before.0, Obeys-from_fits _ _ (subst P (take-map (λ (x : Clause). x.form) k c.list) conflict.before.1));
      none = λ t obeys. path-none t (forms_of (take (k + 1) c.list)) path (Fits-from_obeys t _ obeys) path_is;
      path_is = conflict-clauses (take (k + 1) c.list) path path_is;
    }
