use Rattle.std.proofs.Common.{◌≡◌, ◌↔◌}
use Rattle.route_meaning.specs.History.{History}
use Rattle.route_history.specs.Walks.{left_of}
use Rattle.disk_archive.specs.Archives.{RepresentsIfHonest, IsHonest, settings_of}
use Rattle.disk_archive.specs.Cursors.{IsWalked}
use Rattle.disk_archive.specs.Reading.{ReadsFrom}
use Rattle.disk_calls.proofs.walking.walk.Given as goal

abbrev pub invariant-looks : goal.invariant-looks
invariant-looks g l = record {
  question : l.cursor.question ≡ l.fn.question;
  walked : IsHonest l.initial.archive → (h : History) → RepresentsIfHonest l.initial.archive h → ReadsFrom l.initial.archive l.initial.reader → IsWalked l.cursor h;
  holds : (h : History) → RepresentsIfHonest l.initial.archive h → RepresentsIfHonest l.archive h;
  reads : IsHonest l.initial.archive → (h : History) → RepresentsIfHonest l.initial.archive h → ReadsFrom l.initial.archive l.initial.reader → ReadsFrom l.archive l.reader;
  honest : IsHonest l.initial.archive ↔ IsHonest l.archive;
  settings : settings_of l.archive ≡ settings_of l.initial.archive;
}

abbrev pub decreases-looks : goal.decreases-looks
decreases-looks g l = left_of l.cursor.front
