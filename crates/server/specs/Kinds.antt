-- The kinds of questions.
use Rattle.std.specs.Prelude.{Option, Some, None}
use Rattle.interleaving_core.specs.declared.query.Query.TheVariants.{Rows, Events}
use Rattle.route_meaning.specs.declared.question.Select.{Select}
use Rattle.route_meaning.specs.declared.question.Select.TheVariants as selects
use Rattle.server.specs.declared.meters.Kind.{Kind}
use Rattle.server.specs.declared.meters.Kind.TheVariants as kinds
use Rattle.service.specs.declared.request.Request.{Request}
use Rattle.service.specs.declared.request.Request.TheVariants.{Question, Changed, Watermark, Durable}

-- the kind of a question of one moment, by the word after the moment
abbrev pub kind_of_select : Select → Kind
kind_of_select (selects.Route peer prefix) = kinds.Route
kind_of_select (selects.ByPrefix prefix) = kinds.Prefix
kind_of_select (selects.Covering address) = kinds.Cover
kind_of_select (selects.PeerTable peer) = kinds.Peer
kind_of_select selects.All = kinds.All

-- the kind of a request, if it is a question
abbrev pub kind_of : Request → Option Kind
kind_of (Question (Rows q)) = Some (kind_of_select q.select)
kind_of (Question (Events q)) = Some kinds.History
kind_of (Changed q) = Some kinds.Changed
kind_of Watermark = None
kind_of (Durable collector) = None
