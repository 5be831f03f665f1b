use Rattle.route_history.proofs.Judging.{kept_reports}
use Rattle.route_history.proofs.Reporting.{kept_reports_events, kept_rising}
use Rattle.route_history.proofs.ChangedLater.{kept_reports_changed}
use Rattle.route_history.proofs.laws.versions_report.Goals as goal

pub returns : goal.returns
returns c = record {
  rows = λ ps all moment timely kept. kept_reports ps all moment timely kept;
  events = λ ps all q timely kept hp hx. kept_reports_events ps all q timely kept hp hx;
  changed = λ ps all q kept. kept_reports_changed ps all q kept;
  stamps = λ ps all timely kept. kept_rising ps all timely kept;
}
