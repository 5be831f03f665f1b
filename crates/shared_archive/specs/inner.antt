pub mod StoreCalls
