use Rattle.std.proofs.Common.{sym, ◌∙◌}
use Rattle.route_text.proofs.Cuts.{first_cut, Lacks-at, Lacks-same}
use Rattle.route_text.proofs.RouteFields.{route_text_bars, no_bar}
use Rattle.route_text.proofs.route_reading.fields_of.Goals as goal

pub returns-in_err-path : goal.returns-in_err-path
returns-in_err-path c = record {
  only = λ r valid e.
      let free = no_bar r valid in
      let at_path = e ∙ route_text_bars r in
      absurd (Lacks-at 124 _ _ (Lacks-same 124 _ _ at_path c.in_err-path.ensures.none));
}

pub returns-in_err-origin : goal.returns-in_err-origin
returns-in_err-origin c = record {
  only = λ r valid e.
      let free = no_bar r valid in
      let at_path = e ∙ route_text_bars r in
      let cut_path = first_cut 124 _ _ _ _ (sym c.in_ok-path.ensures.parts ∙ at_path) c.in_ok-path.ensures.first free.path in
      let at_origin = cut_path.1 in
      absurd (Lacks-at 124 _ _ (Lacks-same 124 _ _ at_origin c.in_err-origin.ensures.none));
}

pub returns-in_err-next_hop : goal.returns-in_err-next_hop
returns-in_err-next_hop c = record {
  only = λ r valid e.
      let free = no_bar r valid in
      let at_path = e ∙ route_text_bars r in
      let cut_path = first_cut 124 _ _ _ _ (sym c.in_ok-path.ensures.parts ∙ at_path) c.in_ok-path.ensures.first free.path in
      let at_origin = cut_path.1 in
      let cut_origin = first_cut 124 _ _ _ _ (sym c.in_ok-origin.ensures.parts ∙ at_origin) c.in_ok-origin.ensures.first free.origin in
      let at_next_hop = cut_origin.1 in
      absurd (Lacks-at 124 _ _ (Lacks-same 124 _ _ at_next_hop c.in_err-next_hop.ensures.none));
}

pub returns-in_err-med : goal.returns-in_err-med
returns-in_err-med c = record {
  only = λ r valid e.
      let free = no_bar r valid in
      let at_path = e ∙ route_text_bars r in
      let cut_path = first_cut 124 _ _ _ _ (sym c.in_ok-path.ensures.parts ∙ at_path) c.in_ok-path.ensures.first free.path in
      let at_origin = cut_path.1 in
      let cut_origin = first_cut 124 _ _ _ _ (sym c.in_ok-origin.ensures.parts ∙ at_origin) c.in_ok-origin.ensures.first free.origin in
      let at_next_hop = cut_origin.1 in
      let cut_next_hop = first_cut 124 _ _ _ _ (sym c.in_ok-next_hop.ensures.parts ∙ at_next_hop) c.in_ok-next_hop.ensures.first free.next_hop in
      let at_med = cut_next_hop.1 in
      absurd (Lacks-at 124 _ _ (Lacks-same 124 _ _ at_med c.in_err-med.ensures.none));
}

pub returns-in_err-local_pref : goal.returns-in_err-local_pref
returns-in_err-local_pref c = record {
  only = λ r valid e.
      let free = no_bar r valid in
      let at_path = e ∙ route_text_bars r in
      let cut_path = first_cut 124 _ _ _ _ (sym c.in_ok-path.ensures.parts ∙ at_path) c.in_ok-path.ensures.first free.path in
      let at_origin = cut_path.1 in
      let cut_origin = first_cut 124 _ _ _ _ (sym c.in_ok-origin.ensures.parts ∙ at_origin) c.in_ok-origin.ensures.first free.origin in
      let at_next_hop = cut_origin.1 in
      let cut_next_hop = first_cut 124 _ _ _ _ (sym c.in_ok-next_hop.ensures.parts ∙ at_next_hop) c.in_ok-next_hop.ensures.first free.next_hop in
      let at_med = cut_next_hop.1 in
      let cut_med = first_cut 124 _ _ _ _ (sym c.in_ok-med.ensures.parts ∙ at_med) c.in_ok-med.ensures.first free.med in
      let at_local_pref = cut_med.1 in
      absurd (Lacks-at 124 _ _ (Lacks-same 124 _ _ at_local_pref c.in_err-local_pref.ensures.none));
}

pub returns-in_err-aggregate : goal.returns-in_err-aggregate
returns-in_err-aggregate c = record {
  only = λ r valid e.
      let free = no_bar r valid in
      let at_path = e ∙ route_text_bars r in
      let cut_path = first_cut 124 _ _ _ _ (sym c.in_ok-path.ensures.parts ∙ at_path) c.in_ok-path.ensures.first free.path in
      let at_origin = cut_path.1 in
      let cut_origin = first_cut 124 _ _ _ _ (sym c.in_ok-origin.ensures.parts ∙ at_origin) c.in_ok-origin.ensures.first free.origin in
      let at_next_hop = cut_origin.1 in
      let cut_next_hop = first_cut 124 _ _ _ _ (sym c.in_ok-next_hop.ensures.parts ∙ at_next_hop) c.in_ok-next_hop.ensures.first free.next_hop in
      let at_med = cut_next_hop.1 in
      let cut_med = first_cut 124 _ _ _ _ (sym c.in_ok-med.ensures.parts ∙ at_med) c.in_ok-med.ensures.first free.med in
      let at_local_pref = cut_med.1 in
      let cut_local_pref = first_cut 124 _ _ _ _ (sym c.in_ok-local_pref.ensures.parts ∙ at_local_pref) c.in_ok-local_pref.ensures.first free.local_pref in
      let at_aggregate = cut_local_pref.1 in
      absurd (Lacks-at 124 _ _ (Lacks-same 124 _ _ at_aggregate c.in_err-aggregate.ensures.none));
}

pub returns-in_err-aggregator : goal.returns-in_err-aggregator
returns-in_err-aggregator c = record {
  only = λ r valid e.
      let free = no_bar r valid in
      let at_path = e ∙ route_text_bars r in
      let cut_path = first_cut 124 _ _ _ _ (sym c.in_ok-path.ensures.parts ∙ at_path) c.in_ok-path.ensures.first free.path in
      let at_origin = cut_path.1 in
      let cut_origin = first_cut 124 _ _ _ _ (sym c.in_ok-origin.ensures.parts ∙ at_origin) c.in_ok-origin.ensures.first free.origin in
      let at_next_hop = cut_origin.1 in
      let cut_next_hop = first_cut 124 _ _ _ _ (sym c.in_ok-next_hop.ensures.parts ∙ at_next_hop) c.in_ok-next_hop.ensures.first free.next_hop in
      let at_med = cut_next_hop.1 in
      let cut_med = first_cut 124 _ _ _ _ (sym c.in_ok-med.ensures.parts ∙ at_med) c.in_ok-med.ensures.first free.med in
      let at_local_pref = cut_med.1 in
      let cut_local_pref = first_cut 124 _ _ _ _ (sym c.in_ok-local_pref.ensures.parts ∙ at_local_pref) c.in_ok-local_pref.ensures.first free.local_pref in
      let at_aggregate = cut_local_pref.1 in
      let cut_aggregate = first_cut 124 _ _ _ _ (sym c.in_ok-aggregate.ensures.parts ∙ at_aggregate) c.in_ok-aggregate.ensures.first free.aggregate in
      let at_aggregator = cut_aggregate.1 in
      absurd (Lacks-at 124 _ _ (Lacks-same 124 _ _ at_aggregator c.in_err-aggregator.ensures.none));
}

pub returns : goal.returns
returns c = record {
  only = λ r valid e.
      let free = no_bar r valid in
      let at_path = e ∙ route_text_bars r in
      let cut_path = first_cut 124 _ _ _ _ (sym c.in_ok-path.ensures.parts ∙ at_path) c.in_ok-path.ensures.first free.path in
      let at_origin = cut_path.1 in
      let cut_origin = first_cut 124 _ _ _ _ (sym c.in_ok-origin.ensures.parts ∙ at_origin) c.in_ok-origin.ensures.first free.origin in
      let at_next_hop = cut_origin.1 in
      let cut_next_hop = first_cut 124 _ _ _ _ (sym c.in_ok-next_hop.ensures.parts ∙ at_next_hop) c.in_ok-next_hop.ensures.first free.next_hop in
      let at_med = cut_next_hop.1 in
      let cut_med = first_cut 124 _ _ _ _ (sym c.in_ok-med.ensures.parts ∙ at_med) c.in_ok-med.ensures.first free.med in
      let at_local_pref = cut_med.1 in
      let cut_local_pref = first_cut 124 _ _ _ _ (sym c.in_ok-local_pref.ensures.parts ∙ at_local_pref) c.in_ok-local_pref.ensures.first free.local_pref in
      let at_aggregate = cut_local_pref.1 in
      let cut_aggregate = first_cut 124 _ _ _ _ (sym c.in_ok-aggregate.ensures.parts ∙ at_aggregate) c.in_ok-aggregate.ensures.first free.aggregate in
      let at_aggregator = cut_aggregate.1 in
      let cut_aggregator = first_cut 124 _ _ _ _ (sym c.in_ok-aggregator.ensures.parts ∙ at_aggregator) c.in_ok-aggregator.ensures.first free.aggregator in
      let at_others = cut_aggregator.1 in
      record {
        path_is = cut_path.0;
        origin_is = cut_origin.0;
        next_hop_is = cut_next_hop.0;
        med_is = cut_med.0;
        local_pref_is = cut_local_pref.0;
        aggregate_is = cut_aggregate.0;
        aggregator_is = cut_aggregator.0;
        others_is = at_others;
      };
}
