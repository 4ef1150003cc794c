use Rattle.zsv_request.proofs.request.Request.from_bytes.Goals as goal

pub returns-in-Err-Memory : goal.returns-in-Err-Memory
returns-in-Err-Memory c = rw c.in-Err-Memory.field-0-is at c.in-Err-Memory.ensures
