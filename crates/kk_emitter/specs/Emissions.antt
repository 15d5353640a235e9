-- What an emitter is seen as: what its shape tells, and what it holds.
use Rattle.std.specs.Prelude.{ℕ, Bool, List, refl}
use Rattle.std.specs.Coded.{Coded, code_by, coded×, coded_ℕ, coded_bool, coded_list}
use Rattle.kk_syntax.specs.PositionsOf.{PositionTable}
use Rattle.kk_syntax.specs.contracts.positions.Ownership as OfOwnership
use Rattle.kk_emitter.specs.contracts.work.Work as OfWork
use Rattle.kk_emitter.specs.declared.work.Work.{Work}
use Rattle.kk_emitter.specs.Drafts.{Draft}
use Rattle.kk_emitter.specs.TokenDrafts.{TokenDraft}
use Rattle.kk_counted.specs.Marks.{CellMarks}
use Rattle.kk_emitter.specs.Works.{draft, token_draft}

-- which positions are lent, how many fields constructors have, what the types tell of cells, and what the emitter holds
pub record Emission : Type 0 where
  pub positions : PositionTable
  pub field_counts : List ℕ
  pub marks : CellMarks
  pub work : Work

-- the table of the types is stored as its columns
abbrev pub marks_code : Coded CellMarks
marks_code =
    code_by (List (List Bool) × (List Bool × (List Bool × List (List Bool))))
    (coded× (coded_list (coded_list coded_bool)) (coded× (coded_list coded_bool)
    (coded× (coded_list coded_bool) (coded_list (coded_list coded_bool)))))
    (λ m. (m.parameters, (m.results, (m.types, m.fields))))
    (λ p. record { parameters = p.0; results = p.1.0; types = p.1.1.0; fields = p.1.1.1 })
    (λ _. refl)

-- an emission is stored as its parts
abbrev pub emission_code : Coded Emission
emission_code =
    code_by (PositionTable × (List ℕ × (CellMarks × Work)))
    (coded× (coded_list (coded_list OfOwnership.the_row.coded))
    (coded× (coded_list coded_ℕ) (coded× marks_code OfWork.the_row.coded)))
    (λ e. (e.positions, (e.field_counts, (e.marks, e.work))))
    (λ p. record { positions = p.0; field_counts = p.1.0; marks = p.1.1.0; work = p.1.1.1 })
    (λ _. refl)

-- the draft of its code without tokens, and that of its code with them
abbrev pub counted_of : Emission → Draft
counted_of e = draft e.positions e.field_counts e.marks e.work

abbrev pub tokens_of : Emission → TokenDraft
tokens_of e = token_draft e.work
