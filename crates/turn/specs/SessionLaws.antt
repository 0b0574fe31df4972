-- Lines as the code writes them are those of the session.
use Rattle.std.specs.Prelude.{◌≡◌, refl, true, not, List, Option, Some, None, ℕ, ◌+◌, ◌-◌, ◌≤◌, eqb, length, take, replicate}
use Rattle.std.proofs.Common.{sym, ◌∙◌, arith, length-append}
use Rattle.std.proofs.Math.Path.{ap}
use Rattle.std.proofs.Math.Seq.{take-append_seam}
use Rattle.std.specs.Option.{is_some, unwrap_or}
use Rattle.lines.specs.declared.Text.{Text}
use Rattle.lines.specs.Text.{text_of}
use Rattle.lines.specs.Line.{line_of}
use Rattle.log_fields.specs.declared.Field.{Field}
use Rattle.log_fields.specs.declared.Field.TheVariants.{Root}
use Rattle.log_fields.specs.Outcome.{outcome_of}
use Rattle.log_fields.specs.Field.{field_at}
use Rattle.table.specs.Parts.{Parts}
use Rattle.sequence.specs.Calls.{root}
use Rattle.report.specs.declared.reply.Shown.{Shown}
use Rattle.report.specs.declared.serve.Served.{Served}
use Rattle.report.specs.Printed.{printed_of, printed_refusal, printed_line}
use Rattle.report.specs.Report.{Report, report, report_of}
use Rattle.turn.specs.declared.Reading.{Reading}
use Rattle.turn.specs.Bounds.{Holds}
use Rattle.turn.specs.Session.{Session, Step, reported, refused_field, step_by, step_of, session_of, written, turn_of}

-- a text's bytes are its line
pub written_text : (text : Text) (line : List ℕ) → text ≡ text_of line → written text ≡ line
unfolding text_of
written_text text line e = rw e (take-append_seam line (replicate (96 - length line) 0))

pub text_holds : (text : Text) (line : List ℕ) → (text ≡ text_of line) × (text.len ≤ 96) → Holds text
unfolding text_of
text_holds text line h =
    record { most = h.1; bytes = rw h.0 (omega (arith, length-append line (replicate (96 - length line) 0))) }

module _ (t : Parts) (w : List ℕ) (text : Text) (r : Reading) (next : ℕ) where
  pub served_step : (served : Served)
      → text ≡ text_of (line_of r.ordinal served.shown.letter (take served.shown.count served.shown.values))
      → turn_of t w (record { text = text; reading = record { place = next; ordinal = r.ordinal + 1; total = r.total + served.rows; state = served.state; on = true } })
      ≡ reported r.ordinal r.total next (report_of t w served)
  served_step served e = rw (written_text text _ e)

  pub refused_step : (n : ℕ) (shown : Shown) → printed_of shown ≡ printed_refusal n
      → text ≡ text_of (line_of r.ordinal shown.letter (take shown.count shown.values))
      → turn_of t w (record { text = text; reading = record { place = next; ordinal = r.ordinal + 1; total = r.total; state = r.state; on = not (eqb n 8) } })
      ≡ refused_field (session_of t w r) n next
  refused_step n shown p e = rw (written_text text _ e ∙ ap (printed_line r.ordinal) p)

module _ (log scratch : List ℕ) (s : Session) (f : Field) (read : outcome_of f ≡ field_at log s.place) where
  -- the step of the field that was read, by its case
  pub step_from : (g : Field) → f ≡ g → step_by scratch s (outcome_of g) ≡ step_of log scratch s
  unfolding step_of
  step_from g e = ap (step_by scratch s) (ap outcome_of (sym e) ∙ read)

  -- the step of a field whose call was served
  pub served_from : (g : Field) {next : ℕ} {given due : Report} {turn : Step} → f ≡ g
      → reported s.ordinal s.total next due ≡ step_by scratch s (outcome_of g)
      → turn ≡ reported s.ordinal s.total next given → given ≡ due → turn ≡ step_of log scratch s
  served_from g {next} e same told served = told ∙ ap (reported s.ordinal s.total next) served ∙ same ∙ step_from g e

  -- the step of a root's field: whether it names an opening is told as 1 or 0
  pub root_from : (opening : Option ℕ) {next : ℕ} {given : Report} {turn : Step} → f ≡ Root opening next
      → turn ≡ reported s.ordinal s.total next given → given ≡ report s.fast (root (is_some opening) (unwrap_or opening 0) scratch) → turn ≡ step_of log scratch s
  root_from None {next} e told served = served_from (Root None next) e refl told served
  root_from (Some opening) {next} e told served = served_from (Root (Some opening) next) e refl told served
