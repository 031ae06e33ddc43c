pub mod StoreFacts
