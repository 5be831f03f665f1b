use Rattle.buffer_pool.proofs.pool.Pool.fetch.Goals as goal

pub returns-then-promote-clause-maps : goal.returns-then-promote-clause-maps
returns-then-promote-clause-maps g c h pages m = record { keeps = m.keeps; held = record { committed = m.held.committed; cached = c.promote.ensures.shown pages m.held.cached } }

pub returns-in_err-page-clause-maps : goal.returns-in_err-page-clause-maps
returns-in_err-page-clause-maps g c h pages m = record {
  keeps = c.read_page.ensures.keeps h pages m.keeps;
  held = record { committed = m.held.committed; cached = c.promote.ensures.shown pages m.held.cached };
}

pub returns-in_err-keep-clause-maps : goal.returns-in_err-keep-clause-maps
returns-in_err-keep-clause-maps g c h pages m = record {
  keeps = c.read_page.ensures.keeps h pages m.keeps;
  held = record { committed = m.held.committed; cached = c.keep.ensures.shown pages (c.promote.ensures.shown pages m.held.cached) (c.in_ok-page.ensures.page h pages m.keeps) };
}

pub returns-clause-maps : goal.returns-clause-maps
returns-clause-maps g c h pages m = record {
  keeps = c.read_page.ensures.keeps h pages m.keeps;
  held = record { committed = m.held.committed; cached = c.keep.ensures.shown pages (c.promote.ensures.shown pages m.held.cached) (c.in_ok-page.ensures.page h pages m.keeps) };
}
