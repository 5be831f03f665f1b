use Rattle.std.proofs.Common.{◌≡◌, ◌≤◌, ◌+◌, ◌++◌, ◌∙◌, List, ltb, refl, sym, subst, append_assoc, arith, IfErr}
use Rattle.std.proofs.lemmas.Result.{err_from_is_err_and}
use Rattle.service.specs.Turns.{Turn, offer_where, wait_unless, is_full, waiting_with}
use Rattle.service.specs.inner.Feeding.{HasDone, GivesUp}
use Rattle.service.specs.declared.faults.FeedStop.TheVariants as stops
use Rattle.service.specs.declared.feed_lines.FeedCounts.{FeedCounts}
use Rattle.service.proofs.Following.{on_ok_more}
use Rattle.service.proofs.GivingUp.{gives_more, gives_all}
use Rattle.service.proofs.Gathering.{crowded_is, joined_is, room_made, counted_more}
use Rattle.service.specs.declared.limits.BatchLimits.{BatchLimits}
use Rattle.service.proofs.feeding.Feeding.gather.Goals as goal
use Rattle.archive_calls.specs.declared.refusal.Trouble.TheVariants as troubles

pub returns-in-Ok-clause-gathered : goal.returns-in-Ok-clause-gathered
returns-in-Ok-clause-gathered g c = λ counted.
    let limits = c.push.ensures.same.limit ∙ c.make_room.ensures.same.limit in
    let now = joined_is c.args.self.now.limit c.args.self.now.gathered.items c.make_room.new.self.gathered.items c.push.new.self.gathered.items c.args.admission _
    (crowded_is c.args.self.now.limit c.args.self.now.gathered.items c.args.admission c.args.self.now.octets c.encoded_len-octets.result counted.octets c.encoded_len-octets.ensures.len)
    c.in_ok-make_room.ensures.gathered c.in-Ok.ensures.gathered in
    let w = c.push.new.self.gathered.items in
    let j = waiting_with c.args.self.now.limit c.args.self.now.gathered.items c.args.admission in
    on_ok_more (c.offer_full.new.self.gathered.items ≡ wait_unless (is_full c.push.new.self.limit w) w) (c.offer_full.new.self.gathered.items ≡ wait_unless (is_full c.args.self.now.limit j) j) c.offer_full.result
    c.offer_full.ensures.gathered (λ e. e ∙ (λ k. wait_unless (is_full (limits k) (now k)) (now k)))

pub returns-in-Ok-clause-counted : goal.returns-in-Ok-clause-counted
returns-in-Ok-clause-counted g c = λ counted.
    let room = c.in_ok-make_room.ensures.counted counted in
    let few : c.encoded_len-octets.result + 4 ≤ 131076 = let f = c.encoded_len-octets.ensures.few in omega (arith, f) in
    let fits = room_made c.args.self.now.limit.octets _ c.args.self.now.gathered.items c.make_room.new.self.gathered.items c.args.self.now.octets c.make_room.new.self.octets (c.encoded_len-octets.result + 4)
    counted.one refl c.in_ok-make_room.ensures.gathered counted.octets room.octets few in
    let room_few = counted.few in
    let fits_now = subst (λ (l : BatchLimits). c.make_room.new.self.octets + (c.encoded_len-octets.result + 4) ≤ l.octets) (sym c.make_room.ensures.same.limit) fits in
    c.offer_full.ensures.counted
    (counted_more c.make_room.new.self c.push.new.self c.args.admission c.encoded_len-octets.result room c.encoded_len-octets.ensures.len c.push.ensures.same.limit fits_now c.in-Ok.ensures.gathered (c.in-Ok.ensures.octets (let most = room_few in omega (arith, fits, most))))

pub returns-in-Ok-clause-done : goal.returns-in-Ok-clause-done
returns-in-Ok-clause-done g c = λ k h turns was place counted same d.
    let limits = c.push.ensures.same.limit ∙ c.make_room.ensures.same.limit in
    let crowded = crowded_is c.args.self.now.limit c.args.self.now.gathered.items c.args.admission c.args.self.now.octets c.encoded_len-octets.result counted.octets c.encoded_len-octets.ensures.len in
    let now = joined_is c.args.self.now.limit c.args.self.now.gathered.items c.make_room.new.self.gathered.items c.push.new.self.gathered.items c.args.admission _
    crowded c.in_ok-make_room.ensures.gathered c.in-Ok.ensures.gathered in
    let room = c.in_ok-make_room.ensures.done k h turns was same d in
    let first = offer_where (ltb c.args.self.now.limit.octets (c.args.self.now.octets + (c.encoded_len-octets.result + 4))) c.args.self.now.gathered.items in
    on_ok_more _ _ _
    (c.offer_full.ensures.done k h (turns ++ first) was (c.push.ensures.same.collector ∙ c.make_room.ensures.same.collector ∙ same)
    (subst (λ (t : FeedCounts). HasDone k h (turns ++ first) t (g.A.RouteSource.represents c.make_room.new.archive) was c.make_room.new.out) (sym c.push.ensures.counts) room))
    (λ e. subst (λ (t : List Turn). HasDone k h t c.offer_full.new.self.counts (g.A.RouteSource.represents c.offer_full.new.archive) was c.offer_full.new.out)
    (append_assoc turns first _ ∙ (λ i. turns ++ (offer_where (crowded i) c.args.self.now.gathered.items ++ offer_where (is_full (limits i) (now i)) (now i)))) e)

pub returns-in_err-make_room-clause-given_up : goal.returns-in_err-make_room-clause-given_up
returns-in_err-make_room-clause-given_up g c = λ k h turns was place same counted d.
    let crowded = crowded_is c.args.self.now.limit c.args.self.now.gathered.items c.args.admission c.args.self.now.octets c.encoded_len-octets.result counted.octets c.encoded_len-octets.ensures.len in
    let p = err_from_is_err_and c.from_residual.result c.from_residual.ensures.1 in
    let first = offer_where (ltb c.args.self.now.limit.octets (c.args.self.now.octets + (c.encoded_len-octets.result + 4))) c.args.self.now.gathered.items in
    let j = waiting_with c.args.self.now.limit c.args.self.now.gathered.items c.args.admission in
    let second = offer_where (is_full c.args.self.now.limit j) j in
    rw p.1 (rw p.2
    (subst (λ (t : List Turn). GivesUp k h t (g.A.RouteSource.represents c.make_room.new.archive) was c.make_room.new.out c.in_err-make_room.field-0.0)
    (append_assoc turns first second ∙ (λ i. turns ++ (offer_where (crowded i) c.args.self.now.gathered.items ++ second)))
    (gives_more k h (turns ++ first) second (g.A.RouteSource.represents c.make_room.new.archive) was _ _ (c.in_err-make_room.ensures.given_up k h turns was same counted d))))

pub returns-in-Ok-clause-given_up : goal.returns-in-Ok-clause-given_up
returns-in-Ok-clause-given_up g c = λ k h turns was place same counted d.
    let limits = c.push.ensures.same.limit ∙ c.make_room.ensures.same.limit in
    let crowded = crowded_is c.args.self.now.limit c.args.self.now.gathered.items c.args.admission c.args.self.now.octets c.encoded_len-octets.result counted.octets c.encoded_len-octets.ensures.len in
    let now = joined_is c.args.self.now.limit c.args.self.now.gathered.items c.make_room.new.self.gathered.items c.push.new.self.gathered.items c.args.admission _
    crowded c.in_ok-make_room.ensures.gathered c.in-Ok.ensures.gathered in
    let counts = c.in_ok-make_room.ensures.counted counted in
    let few : c.encoded_len-octets.result + 4 ≤ 131076 = let f = c.encoded_len-octets.ensures.few in omega (arith, f) in
    let fits = room_made c.args.self.now.limit.octets _ c.args.self.now.gathered.items c.make_room.new.self.gathered.items c.args.self.now.octets c.make_room.new.self.octets (c.encoded_len-octets.result + 4)
    counted.one refl c.in_ok-make_room.ensures.gathered counted.octets counts.octets few in
    let room_few = counted.few in
    let fits_now = subst (λ (l : BatchLimits). c.make_room.new.self.octets + (c.encoded_len-octets.result + 4) ≤ l.octets) (sym c.make_room.ensures.same.limit) fits in
    let more = counted_more c.make_room.new.self c.push.new.self c.args.admission c.encoded_len-octets.result counts c.encoded_len-octets.ensures.len c.push.ensures.same.limit fits_now c.in-Ok.ensures.gathered (c.in-Ok.ensures.octets (let most = room_few in omega (arith, fits, most))) in
    let room = c.in_ok-make_room.ensures.done k h turns was same d in
    let first = offer_where (ltb c.args.self.now.limit.octets (c.args.self.now.octets + (c.encoded_len-octets.result + 4))) c.args.self.now.gathered.items in
    subst (λ (t : List Turn). IfErr c.offer_full.result (GivesUp k h t (g.A.RouteSource.represents c.offer_full.new.archive) was c.offer_full.new.out))
    (append_assoc turns first _ ∙ (λ i. turns ++ (offer_where (crowded i) c.args.self.now.gathered.items ++ offer_where (is_full (limits i) (now i)) (now i))))
    (c.offer_full.ensures.given_up k h (turns ++ first) was (c.push.ensures.same.collector ∙ c.make_room.ensures.same.collector ∙ same) more
    (subst (λ (t : FeedCounts). HasDone k h (turns ++ first) t (g.A.RouteSource.represents c.make_room.new.archive) was c.make_room.new.out) (sym c.push.ensures.counts) room))

pub returns-in-Err-clause-given_up : goal.returns-in-Err-clause-given_up
returns-in-Err-clause-given_up g c = λ k h turns was place same counted d.
    let crowded = crowded_is c.args.self.now.limit c.args.self.now.gathered.items c.args.admission c.args.self.now.octets c.encoded_len-octets.result counted.octets c.encoded_len-octets.ensures.len in
    let first = offer_where (ltb c.args.self.now.limit.octets (c.args.self.now.octets + (c.encoded_len-octets.result + 4))) c.args.self.now.gathered.items in
    let j = waiting_with c.args.self.now.limit c.args.self.now.gathered.items c.args.admission in
    let second = offer_where (is_full c.args.self.now.limit j) j in
    subst (λ (t : List Turn). GivesUp k h t (g.A.RouteSource.represents c.make_room.new.archive) was c.make_room.new.out (stops.Trouble troubles.OutOfMemory))
    (append_assoc turns first second ∙ (λ i. turns ++ (offer_where (crowded i) c.args.self.now.gathered.items ++ second)))
    (gives_more k h (turns ++ first) second (g.A.RouteSource.represents c.make_room.new.archive) was _ _ (gives_all k h (turns ++ first) c.make_room.new.self.counts (g.A.RouteSource.represents c.make_room.new.archive) was _ (stops.Trouble troubles.OutOfMemory) tt (c.in_ok-make_room.ensures.done k h turns was same d)))
