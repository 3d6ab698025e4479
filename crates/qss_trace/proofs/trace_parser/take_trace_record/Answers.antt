use Rattle.qss_trace.proofs.Common
use Common.{[], ℕ, ℤ, ◌++◌, ◌+◌, ◌∙◌, ◌∷◌, ◌≡◌, ◌≤◌, ◌⊎◌, ap, arith, fields_of, IfErr, inr}
use Common.{IsDraftOf, IsErrAnd, Kept, length, length-append, List, Memory, None, record_fault}
use Common.{Result, rules, Some, subst, sym, TextErr}
use Rattle.qss_trace.specs.declared.trace_parser.Draft.{Draft}
use Rattle.qss_trace.proofs.Keeping.{kept-form, kept-scale, kept-refine, kept-quanta, kept-place}
use Rattle.qss_trace.proofs.Taken.{err-as}
use Rattle.qss_trace.proofs.trace_parser.take_trace_record.Goals.{in-0+in_ok-take_trace_form-in-0}
use Rattle.qss_trace.proofs.trace_parser.take_trace_record.Goals.{in-1+in_ok-draft-in-1}
use Rattle.qss_trace.proofs.trace_parser.take_trace_record.Goals.{in-2+in_ok-draft-in-2}
use Rattle.qss_trace.proofs.trace_parser.take_trace_record.Goals.{in-3+in_ok-take_trace_quanta-in-3}
use Rattle.qss_trace.proofs.trace_parser.take_trace_record.Goals.{in_default+in_ok-take_trace_place-in_default}
use Rattle.qss_trace.proofs.trace_parser.take_trace_record.Goals as goal

-- the fault of the record after j records is that of this record
wrong : {X : Type 0} (r : Result X TextErr) (e : TextErr) (n k j : ℕ) (fields : List (List ℕ))
    → k ≡ j → record_fault n j fields ≡ Some e → IsErrAnd r (λ x. x ≡ e)
    → IfErr r (λ why. (why ≡ Memory) ⊎ (record_fault n k fields ≡ Some why))
wrong r e n k j fields at bad is =
    err-as r e (λ why. (why ≡ Memory) ⊎ (record_fault n k fields ≡ Some why)) is
    (inr (ap (λ i. record_fault n i fields) at ∙ bad))

pub returns-in_err-take_trace_form-in-0-clause-refused :
    goal.returns-in_err-take_trace_form-in-0-clause-refused
returns-in_err-take_trace_form-in-0-clause-refused c =
    let e = c.in_err-take_trace_form-in-0 in
    wrong c.from_residual.result e.field-0.0 c.args.draft.now.n c.args.draft.now.taken 0
    (fields_of c.args.found.now) c.in-0.is (e.ensures.refused c.args.draft.now.n)
    c.from_residual.ensures.1

pub returns-in_err-draft-in-1-clause-refused : goal.returns-in_err-draft-in-1-clause-refused
returns-in_err-draft-in-1-clause-refused c =
    let e = c.in_err-draft-in-1 in
    wrong c.from_residual-in_err-draft-in-1.result e.field-0.0 c.args.draft.now.n
    c.args.draft.now.taken 1 (fields_of c.args.found.now) c.in-1.is
    (e.ensures.refused c.args.draft.now.n) c.from_residual-in_err-draft-in-1.ensures.1

pub returns-in_err-draft-in-2-clause-refused : goal.returns-in_err-draft-in-2-clause-refused
returns-in_err-draft-in-2-clause-refused c =
    let e = c.in_err-draft-in-2 in
    wrong c.from_residual-in_err-draft-in-2.result e.field-0.0 c.args.draft.now.n
    c.args.draft.now.taken 2 (fields_of c.args.found.now) c.in-2.is
    (e.ensures.refused c.args.draft.now.n) c.from_residual-in_err-draft-in-2.ensures.1

pub returns-clause-takes : goal.returns-clause-takes
returns-clause-takes c = λ seen is.
    let d = c.args.draft.now in
    let fields = fields_of c.args.found.now in
    let P : Draft → Type 0 =
    λ it. IsDraftOf (seen ++ fields ∷ []) (record it { taken = it.taken + 1 }) in
    let Free : ℕ → Type 0 = λ k. record_fault d.n k fields ≡ None in
    let more : d.taken + 1 ≡ length (seen ++ fields ∷ []) =
    omega (arith, is.taken_is, length-append seen (fields ∷ [])) in
    elim c.match-draft.branch [
      | in-0+in_ok-take_trace_form-in-0 w ↦
          let e : length seen ≡ 0 = sym is.taken_is ∙ w.in-0.is in
          let it = w.in_ok-take_trace_form-in-0.ensures in
          subst P (sym w.draft-is) (record {
            taken_is = more;
            keeps = kept-form d.n seen fields d.scale d.refine d.q.items d.states.items
                d.levels.items is.keeps (subst Free (sym e) (it.fine d.n)) e it.spelt;
          })
      | in-1+in_ok-draft-in-1 w ↦
          let e : length seen ≡ 1 = sym is.taken_is ∙ w.in-1.is in
          let it = w.in_ok-draft-in-1.ensures in
          subst P (sym w.draft-is) (record {
            taken_is = more;
            keeps = kept-scale d.n seen fields d.scale d.refine d.q.items d.states.items
                d.levels.items is.keeps (subst Free (sym e) (it.fine d.n))
                w.in_ok-draft-in-1.field-0 e it.spelt it.factor;
          })
      | in-2+in_ok-draft-in-2 w ↦
          let e : length seen ≡ 2 = sym is.taken_is ∙ w.in-2.is in
          let it = w.in_ok-draft-in-2.ensures in
          subst P (sym w.draft-is) (record {
            taken_is = more;
            keeps = kept-refine d.n seen fields d.scale d.refine d.q.items d.states.items
                d.levels.items is.keeps (subst Free (sym e) (it.fine d.n))
                w.in_ok-draft-in-2.field-0 e it.spelt it.factor;
          })
      | in-3+in_ok-take_trace_quanta-in-3 w ↦
          let e : length seen ≡ 3 = sym is.taken_is ∙ w.in-3.is in
          let it = w.in_ok-take_trace_quanta-in-3.ensures in
          subst P (sym w.draft-is) (record {
            taken_is = more;
            keeps = kept-quanta d.n seen fields d.scale d.refine d.q.items d.states.items
                d.levels.items is.keeps (subst Free (sym e) it.fine) w.take_trace_quanta.new.q.items
                e it.spelt it.quanta;
          })
      | in_default+in_ok-take_trace_place-in_default w ↦
          let h : 4 ≤ length seen = search (rules, arith, is.taken_is) in
          let a = w.in_ok-take_trace_place-in_default.ensures in
          let none = a.fine (length seen) (ap (λ k. k + 1) (sym is.taken_is)) in
          let keeps = kept-place d.n seen fields d.scale d.refine d.q.items d.states.items
          d.levels.items a.adds.xs a.adds.ms c.requires.size.some h is.keeps none a.adds.state_count
          a.adds.level_count a.adds.small_states a.adds.small_levels a.adds.spelt in
          let X : List ℤ → Type 0 =
          λ xs. Kept d.n (seen ++ fields ∷ []) d.scale d.refine d.q.items xs
          (d.levels.items ++ a.adds.ms) in
          let M : List ℤ → Type 0 = λ ms. Kept d.n (seen ++ fields ∷ []) d.scale d.refine d.q.items
          w.take_trace_place.new.states.items ms in
          subst P (sym w.draft-is) (record {
            taken_is = more;
            keeps = subst M (sym a.adds.levels_are) (subst X (sym a.adds.states_are) keeps);
          })
    ]
