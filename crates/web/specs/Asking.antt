-- A question that is asked by a line which a target was made into, over what a pass sees once it is answered.
use Rattle.std.specs.Prelude.{◌≡◌, ◌⊎◌, ⊤, ℕ, List, Option, Some, None}
use Rattle.board.specs.Views.{View}
use Rattle.interleaving_core.specs.declared.query.Query.TheVariants.{Rows, Events}
use Rattle.server.specs.Replies.{IsReplyOver, IsRefusedOver}
use Rattle.service.specs.Requests.{IsRequestLine}
use Rattle.service.specs.declared.faults.Unanswered.{Unanswered}
use Rattle.service.specs.declared.faults.Unanswered.TheVariants as whys
use Rattle.service.specs.declared.request.Request.{Request}
use Rattle.service.specs.declared.request.Request.TheVariants.{Question, Changed, Watermark, Durable}

-- the request is a question: of a moment, of a history, or of what changed
abbrev pub IsQuestion : Request → Type 0
IsQuestion (Question query) = ⊤
IsQuestion (Changed q) = ⊤
IsQuestion Watermark = ⊥
IsQuestion (Durable collector) = ⊥

-- the line asks this question
pub record AsksQuestion (line : List ℕ) (request : Request) : Type 0 where
  pub asks : IsRequestLine line request
  pub question : IsQuestion request

-- the moment of a question of one moment
abbrev pub time_of : Request → Option ℕ
time_of (Question (Rows q)) = Some q.moment
time_of (Question (Events q)) = None
time_of (Changed q) = None
time_of Watermark = None
time_of (Durable collector) = None

-- the line asks this question, of this moment if it is of one, and these are the lines of its reply
pub record IsReplyTo (promised : Type 0) (v : View) (line : List ℕ) (request : Request) (time : Option ℕ) (text : List ℕ) : Type 0 where
  pub asks : AsksQuestion line request
  pub time_is : time ≡ time_of request
  pub replied : IsReplyOver promised v request text

-- why no question is read from a line: it asks none, or there was no memory to read it
abbrev pub IsUnread : List ℕ → Unanswered → Type 0
IsUnread line whys.BadRequest = (request : Request) → AsksQuestion line request → ⊥
IsUnread line (whys.Trouble trouble) = ⊤
IsUnread line why = ⊥

-- the line asks this question, which is refused
pub record IsRefusedTo (promised : Type 0) (collectors : ℕ) (v : View) (line : List ℕ) (request : Request) (why : Unanswered) : Type 0 where
  pub asks : AsksQuestion line request
  pub refused : IsRefusedOver promised collectors v request why

-- why a line isn't answered: no question is read from it, or its question is refused
abbrev pub IsUnansweredTo : Type 0 → ℕ → View → List ℕ → Unanswered → Type 0
IsUnansweredTo promised collectors v line why = IsUnread line why ⊎ ((request : Request) × IsRefusedTo promised collectors v line request why)
